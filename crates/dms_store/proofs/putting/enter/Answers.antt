use Rattle.std.proofs.Common.{Bor, ◌≡◌, ◌∙◌, ℕ, Option, Some, None, Ok, refl, ap, subst, sym, arith}
use Rattle.std.specs.Option.{option_copied, option_map}
use Rattle.dms_desc.specs.Lookups.{structure_of}
use Rattle.dms_desc.specs.Shape.{as_described, shape_of}
use Rattle.dms_desc.specs.declared.structure.Structure.{Structure}
use Rattle.std.proofs.lemmas.Result.{IfOk-weaker}
use Rattle.dms_block.specs.Content.{Content}
use Rattle.dms_block.specs.View.{overlay_content}
use Rattle.dms_desc.specs.Files.{file_of}
use Rattle.dms_slots.specs.SlotBlocks.{AreTaken}
use Rattle.dms_store.specs.Finding.{number_at, seen_below, set_if}
use Rattle.dms_store.specs.TakenLaws.{old_next}
use Rattle.dms_store.specs.Undamaged.{not_set}
use Rattle.std.specs.Prelude.{IfOk}
use Rattle.dms_model.specs.Fitting.{PutFits, RecordFits}
use Rattle.dms_model.specs.declared.put.Put.TheVariants.{Full}
use Rattle.dms_store.specs.Addressed.{AnswersTold, FewStored, NextTold}
use Rattle.dms_store.specs.PuttingCalls.{WritesFew, few_none}
use Rattle.dms_store.proofs.putting.enter.Goals as goal

pub returns-in-None-clause-answers : goal.returns-in-None-clause-answers
returns-in-None-clause-answers g c =
    absurd (not_set (as_described c.args.desc.now) c.args.set (sym c.structure.ensures ∙ ap (λ (o : Option (Bor Structure)). option_map shape_of (option_copied o)) c.in-None.is) c.requires.set)

pub put_new-requires-clause-at : goal.put_new-requires-clause-at
put_new-requires-clause-at g c =
    let desc = as_described c.args.desc.now in
    let s = shape_of c.in-Some.s.now in
    let at : structure_of desc c.args.set ≡ Some s = sym c.structure.ensures ∙ ap (λ (o : Option (Bor Structure)). option_map shape_of (option_copied o)) c.in-Some.is in
    ap (structure_of desc) (number_at desc c.args.set s c.requires.usable.serves.served at) ∙ at

pub put_new-requires-clause-new : goal.put_new-requires-clause-new
put_new-requires-clause-new g c =
    let desc = as_described c.args.desc.now in
    let s = shape_of c.in-Some.s.now in
    let at : structure_of desc c.args.set ≡ Some s = sym c.structure.ensures ∙ ap (λ (o : Option (Bor Structure)). option_map shape_of (option_copied o)) c.in-Some.is in
    subst (λ n. RecordFits desc n c.args.rec.now) (sym (number_at desc c.args.set s c.requires.usable.serves.served at)) c.requires.fits

pub put_old-requires-clause-at : goal.put_old-requires-clause-at
put_old-requires-clause-at g c =
    let desc = as_described c.args.desc.now in
    let s = shape_of c.in-Some.s.now in
    let at : structure_of desc c.args.set ≡ Some s = sym c.structure.ensures ∙ ap (λ (o : Option (Bor Structure)). option_map shape_of (option_copied o)) c.in-Some.is in
    ap (structure_of desc) (number_at desc c.args.set s c.requires.usable.serves.served at) ∙ at

pub put_old-requires-clause-new : goal.put_old-requires-clause-new
put_old-requires-clause-new g c =
    let desc = as_described c.args.desc.now in
    let s = shape_of c.in-Some.s.now in
    let at : structure_of desc c.args.set ≡ Some s = sym c.structure.ensures ∙ ap (λ (o : Option (Bor Structure)). option_map shape_of (option_copied o)) c.in-Some.is in
    subst (λ n. RecordFits desc n c.args.rec.now) (sym (number_at desc c.args.set s c.requires.usable.serves.served at)) c.requires.fits

pub returns-in-None-number-clause-fits : goal.returns-in-None-number-clause-fits
returns-in-None-number-clause-fits g c =
    let desc = as_described c.args.desc.now in
    let s = shape_of c.in-Some.s.now in
    let at : structure_of desc c.args.set ≡ Some s = sym c.structure.ensures ∙ ap (λ (o : Option (Bor Structure)). option_map shape_of (option_copied o)) c.in-Some.is in
    subst (λ n. IfOk c.put_new.result (PutFits desc n)) (number_at desc c.args.set s c.requires.usable.serves.served at) c.put_new.ensures.fits

pub returns-in-None-number-clause-answers : goal.returns-in-None-number-clause-answers
returns-in-None-number-clause-answers g c =
    let desc = as_described c.args.desc.now in
    let s = shape_of c.in-Some.s.now in
    let at : structure_of desc c.args.set ≡ Some s = sym c.structure.ensures ∙ ap (λ (o : Option (Bor Structure)). option_map shape_of (option_copied o)) c.in-Some.is in
    let own = number_at desc c.args.set s c.requires.usable.serves.served at in
    subst (λ (o : Option ℕ). IfOk c.put_new.result (AnswersTold desc c.args.over.now c.put_new.new.over c.args.set o c.args.rec.now)) (sym c.in-None-number.is)
    (subst (λ n. IfOk c.put_new.result (AnswersTold desc c.args.over.now c.put_new.new.over n None c.args.rec.now)) own c.put_new.ensures.answers)

pub returns-in-Some-number-clause-fits : goal.returns-in-Some-number-clause-fits
returns-in-Some-number-clause-fits g c =
    let desc = as_described c.args.desc.now in
    let s = shape_of c.in-Some.s.now in
    let at : structure_of desc c.args.set ≡ Some s = sym c.structure.ensures ∙ ap (λ (o : Option (Bor Structure)). option_map shape_of (option_copied o)) c.in-Some.is in
    subst (λ n. IfOk c.put_old.result (PutFits desc n)) (number_at desc c.args.set s c.requires.usable.serves.served at) c.put_old.ensures.fits

pub returns-in-Some-number-clause-answers : goal.returns-in-Some-number-clause-answers
returns-in-Some-number-clause-answers g c =
    let desc = as_described c.args.desc.now in
    let s = shape_of c.in-Some.s.now in
    let at : structure_of desc c.args.set ≡ Some s = sym c.structure.ensures ∙ ap (λ (o : Option (Bor Structure)). option_map shape_of (option_copied o)) c.in-Some.is in
    let own = number_at desc c.args.set s c.requires.usable.serves.served at in
    subst (λ (o : Option ℕ). IfOk c.put_old.result (AnswersTold desc c.args.over.now c.put_old.new.over c.args.set o c.args.rec.now)) (sym c.in-Some-number.is)
    (subst (λ n. IfOk c.put_old.result (AnswersTold desc c.args.over.now c.put_old.new.over n (Some c.in-Some-number.number) c.args.rec.now)) own c.put_old.ensures.answers)

pub put_new-requires-clause-known : goal.put_new-requires-clause-known
put_new-requires-clause-known g c told =
    let desc = as_described c.args.desc.now in
    let s = shape_of c.in-Some.s.now in
    let a = c.args.over.now in
    let at : structure_of desc c.args.set ≡ Some s = sym c.structure.ensures ∙ ap (λ (o : Option (Bor Structure)). option_map shape_of (option_copied o)) c.in-Some.is in
    subst (λ (x : Content). AreTaken s (x (file_of s.number)) c.args.taken) (sym (seen_below a c.requires.usable.none)) (c.requires.known told s at (set_if desc c.args.set s at c.requires.set))

pub returns-in-None-number-clause-taken : goal.returns-in-None-number-clause-taken
returns-in-None-number-clause-taken g c =
    let desc = as_described c.args.desc.now in
    let s = shape_of c.in-Some.s.now in
    let at : structure_of desc c.args.set ≡ Some s = sym c.structure.ensures ∙ ap (λ (o : Option (Bor Structure)). option_map shape_of (option_copied o)) c.in-Some.is in
    let own = number_at desc c.args.set s c.requires.usable.serves.served at in
    subst (λ (o : Option ℕ). IfOk c.put_new.result (NextTold desc c.args.set o c.args.over.now c.put_new.new.over)) (sym c.in-None-number.is)
    (subst (λ n. IfOk c.put_new.result (NextTold desc n None c.args.over.now c.put_new.new.over)) own c.put_new.ensures.taken)

pub returns-in-Some-number-clause-taken : goal.returns-in-Some-number-clause-taken
returns-in-Some-number-clause-taken g c =
    let desc = as_described c.args.desc.now in
    let a = c.args.over.now in
    let z = c.put_old.new.over in
    let n = c.in-Some-number.number in
    subst (λ (o : Option ℕ). IfOk c.put_old.result (NextTold desc c.args.set o a z)) (sym c.in-Some-number.is)
    (IfOk-weaker c.put_old.result _ _ (λ p h told. old_next desc c.args.set n (overlay_content a) (overlay_content z) p (h told)) c.put_old.ensures.taken)

pub returns-in-None-clause-enters : goal.returns-in-None-clause-enters
returns-in-None-clause-enters g c = few_none _ (Ok Full) c.args.over.now (λ db told spelt. omega arith) g.met.B.Blocks.same_again tt refl c.requires.usable.sound

pub returns-in-None-number-clause-enters : goal.returns-in-None-number-clause-enters
returns-in-None-number-clause-enters g c =
    let desc = as_described c.args.desc.now in
    let s = shape_of c.in-Some.s.now in
    let a = c.args.over.now in
    let at : structure_of desc c.args.set ≡ Some s = sym c.structure.ensures ∙ ap (λ (o : Option (Bor Structure)). option_map shape_of (option_copied o)) c.in-Some.is in
    let own = number_at desc c.args.set s c.requires.usable.serves.served at in
    subst (λ (o : Option ℕ). WritesFew (FewStored desc c.args.set o a) c.put_new.result a c.put_new.new.over) (sym c.in-None-number.is)
    (subst (λ n. WritesFew (FewStored desc n None a) c.put_new.result a c.put_new.new.over) own c.put_new.ensures.enters)

pub returns-in-Some-number-clause-enters : goal.returns-in-Some-number-clause-enters
returns-in-Some-number-clause-enters g c =
    let desc = as_described c.args.desc.now in
    let s = shape_of c.in-Some.s.now in
    let a = c.args.over.now in
    let at : structure_of desc c.args.set ≡ Some s = sym c.structure.ensures ∙ ap (λ (o : Option (Bor Structure)). option_map shape_of (option_copied o)) c.in-Some.is in
    let own = number_at desc c.args.set s c.requires.usable.serves.served at in
    subst (λ (o : Option ℕ). WritesFew (FewStored desc c.args.set o a) c.put_old.result a c.put_old.new.over) (sym c.in-Some-number.is)
    (subst (λ n. WritesFew (FewStored desc n (Some c.in-Some-number.number) a) c.put_old.result a c.put_old.new.over) own c.put_old.ensures.enters)
