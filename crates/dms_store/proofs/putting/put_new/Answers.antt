use Rattle.std.proofs.Common.{ℕ, ◌≡◌, ◌∙◌, ◌≤◌, IfSome, IsTrue, Option, ap, subst, sym, arith}
use Rattle.std.specs.declared.option.Option.TheVariants.{None}
use Rattle.std.proofs.lemmas.Result.{IfOk-weaker}
use Rattle.dms_block.specs.Content.{Content}
use Rattle.dms_block.specs.HeldLaws.{causes_or_on}
use Rattle.dms_block.specs.View.{overlay_content, under}
use Rattle.dms_block.specs.ViewLaws.{seen_still}
use Rattle.dms_desc.specs.Shape.{as_described, shape_of}
use Rattle.dms_model.specs.declared.put.Put.{Put}
use Rattle.dms_chain.specs.SeenLaws.{causes_err}
use Rattle.dms_slots.specs.Seen.{BadIn, count_of}
use Rattle.dms_desc.specs.Files.{file_of}
use Rattle.dms_slots.specs.SlotBlocks.{block_of, least_free, slot_at}
use Rattle.dms_spelling.specs.Staying.{TakenStay, same_stays, then_stays}
use Rattle.dms_store.specs.Finding.{seen_below}
use Rattle.dms_store.specs.Addressed.{FewFound, FewStored}
use Rattle.dms_store.specs.PuttingCalls.{few_failed, few_on}
use Rattle.dms_store.specs.PuttingJudged.{owner_new, new_answers, none_answers}
use Rattle.dms_store.specs.PuttingNumbers.{free_new}
use Rattle.dms_store.specs.PuttingPlaced.{found_on, none_bad, spelt_on, told_on}
use Rattle.dms_store.specs.PuttingSpent.{stored_new}
use Rattle.dms_store.specs.PuttingStore.{some_structure}
use Rattle.dms_store.specs.Taken.{TakesNext}
use Rattle.dms_store.specs.TakenLaws.{least_good, next_taken, none_stored, stored_weaker, told_before}
use Rattle.dms_store.specs.declared.address.Address.{Address}
use Rattle.dms_store.proofs.putting.put_new.Goals as goal

pub returns-in-Err-clause-below : goal.returns-in-Err-clause-below
returns-in-Err-clause-below g c db told spelt =
    let s = shape_of c.args.s.now in
    let a = c.args.over.now in
    causes_err (Option ℕ) Put (BadIn s a) (λ f k. ⊥) c.in-Err.e (under a) (under c.next_free.new.b)
    (λ f k bad. none_bad (as_described c.args.desc.now) a s db c.requires.usable c.requires.at c.requires.set told spelt f k bad) c.in-Err.ensures.causes

pub returns-in-Err-clause-enters : goal.returns-in-Err-clause-enters
returns-in-Err-clause-enters g c = few_failed _ (BadIn (shape_of c.args.s.now) c.args.over.now) c.in-Err.e c.args.over.now c.next_free.new.b (λ db told spelt. omega arith) c.in-Err.ensures.reads c.in-Err.ensures.causes

pub returns-in-Ok-None-clause-enters : goal.returns-in-Ok-None-clause-enters
returns-in-Ok-None-clause-enters g c =
    let desc = as_described c.args.desc.now in
    let s = shape_of c.args.s.now in
    let a = c.args.over.now in
    let b = c.next_free.new.b in
    few_on (FewStored desc s.number None b) (FewStored desc s.number None a) c.judge.result a b c.judge.new.over g.met.B.Blocks.same_then
    (λ n low db told spelt. low db (told_on desc a b c.requires.usable db told spelt c.in-Ok-None.ensures.reads) (spelt_on desc a b c.requires.usable db told spelt c.in-Ok-None.ensures.reads))
    c.in-Ok-None.ensures.reads c.in-Ok-None.ensures.causes c.judge.ensures.enters

pub returns-in-Ok-None-clause-answers : goal.returns-in-Ok-None-clause-answers
returns-in-Ok-None-clause-answers g c =
    IfOk-weaker c.judge.result _ _ (λ p h told db spelt may.
    let desc = as_described c.args.desc.now in
    let s = shape_of c.args.s.now in
    let a = c.args.over.now in
    let b = c.next_free.new.b in
    let least = sym c.in-Ok-None.field-0-is ∙ c.in-Ok-None.ensures.least told (c.requires.known told) ∙ ap (λ (x : Content). least_free s (x (file_of s.number))) (seen_below a c.requires.usable.none) in
    none_answers desc c.requires.usable.serves.served db (under a).content (overlay_content c.judge.new.over) s.number s c.args.rec.now spelt c.requires.at c.requires.set c.requires.new p least
    (h db (told_on desc a b c.requires.usable db told spelt c.in-Ok-None.ensures.reads) (spelt_on desc a b c.requires.usable db told spelt c.in-Ok-None.ensures.reads))) c.judge.ensures.judged

pub returns-in-Ok-Some-clause-enters : goal.returns-in-Ok-Some-clause-enters
returns-in-Ok-Some-clause-enters g c =
    let desc = as_described c.args.desc.now in
    let s = shape_of c.args.s.now in
    let a = c.args.over.now in
    let b = c.next_free.new.b in
    let reads = c.in-Ok-Some.ensures.reads in
    let at : Address = record { desc = c.args.desc; set = c.args.s; number = c.in-Ok-Some.number } in
    few_on (FewFound at None b) (FewStored desc s.number None a) c.store_at.result a b c.store_at.new.over g.met.B.Blocks.same_then
    (λ n low db told spelt.
    let least = sym c.in-Ok-Some.field-0-is ∙ c.in-Ok-Some.ensures.least told (c.requires.known told) ∙ ap (λ (x : Content). least_free s (x (file_of s.number))) (seen_below a c.requires.usable.none) in
    let le = low db (found_on desc a b c.requires.usable db told spelt reads s c.in-Ok-Some.number None (free_new desc c.requires.usable.serves.served db (under a).content s.number s spelt c.requires.at c.requires.set c.in-Ok-Some.number least)) in
    stored_new at n (some_structure desc s.number s c.requires.at) db le)
    reads c.in-Ok-Some.ensures.causes c.store_at.ensures.enters

pub returns-in-Ok-Some-clause-below : goal.returns-in-Ok-Some-clause-below
returns-in-Ok-Some-clause-below g c db told spelt =
    let desc = as_described c.args.desc.now in
    let s = shape_of c.args.s.now in
    let a = c.args.over.now in
    let b = c.next_free.new.b in
    let reads = c.in-Ok-Some.ensures.reads in
    let least = sym c.in-Ok-Some.field-0-is ∙ c.in-Ok-Some.ensures.least told (c.requires.known told) ∙ ap (λ (x : Content). least_free s (x (file_of s.number))) (seen_below a c.requires.usable.none) in
    causes_or_on (λ f k. ⊥) (λ f k. ⊥) c.store_at.result (under a) (under b) (under c.store_at.new.over) (λ f k h. h) c.in-Ok-Some.ensures.causes reads.looks.passes.lasts reads.looks.same
    (c.store_at.ensures.below db (found_on desc a b c.requires.usable db told spelt reads s c.in-Ok-Some.number None
    (free_new desc c.requires.usable.serves.served db (under a).content s.number s spelt c.requires.at c.requires.set c.in-Ok-Some.number least)))

pub returns-in-Ok-Some-clause-answers : goal.returns-in-Ok-Some-clause-answers
returns-in-Ok-Some-clause-answers g c =
    IfOk-weaker c.store_at.result _ _ (λ p h told db spelt may.
    let desc = as_described c.args.desc.now in
    let s = shape_of c.args.s.now in
    let a = c.args.over.now in
    let b = c.next_free.new.b in
    let reads = c.in-Ok-Some.ensures.reads in
    let n = c.in-Ok-Some.number in
    let least = sym c.in-Ok-Some.field-0-is ∙ c.in-Ok-Some.ensures.least told (c.requires.known told) ∙ ap (λ (x : Content). least_free s (x (file_of s.number))) (seen_below a c.requires.usable.none) in
    let found = found_on desc a b c.requires.usable db told spelt reads s n None (free_new desc c.requires.usable.serves.served db (under a).content s.number s spelt c.requires.at c.requires.set n least) in
    let place = subst (λ (o : Option ℕ). IfSome o (λ k. (1 ≤ k) × (k ≤ s.population) × (block_of s.items k ≤ count_of s a))) c.in-Ok-Some.field-0-is c.in-Ok-Some.ensures.place in
    new_answers desc c.requires.usable.serves.served db (under a).content (overlay_content c.store_at.new.over) s.number s c.args.rec.now spelt c.requires.at c.requires.set c.requires.new n p place.0 least
    (h db found (owner_new desc db s.number s c.args.rec.now c.requires.at may))) c.store_at.ensures.entered

pub store_at-requires-clause-sound : goal.store_at-requires-clause-sound
store_at-requires-clause-sound g c told_b =
    let s = shape_of c.args.s.now in
    let reads = c.in-Ok-Some.ensures.reads in
    let told : IsTrue (under c.args.over.now).told = told_before reads.looks.passes.lasts told_b in
    let least = sym c.in-Ok-Some.field-0-is ∙ c.in-Ok-Some.ensures.least told (c.requires.known told) in
    let good = least_good s (overlay_content c.args.over.now) c.in-Ok-Some.number least in
    λ bad. good (ap (λ (x : Content). slot_at s (x (file_of s.number)) c.in-Ok-Some.number) (sym (seen_still reads told)) ∙ bad)

pub returns-in-Ok-None-clause-taken : goal.returns-in-Ok-None-clause-taken
returns-in-Ok-None-clause-taken g c = IfOk-weaker c.judge.result _ _ (λ p none told. none_stored p _ none) c.judge.ensures.unstored

pub returns-in-Ok-Some-clause-taken : goal.returns-in-Ok-Some-clause-taken
returns-in-Ok-Some-clause-taken g c =
    IfOk-weaker c.store_at.result _ _ (λ p h told.
    let desc = as_described c.args.desc.now in
    let s = shape_of c.args.s.now in
    let a = c.args.over.now in
    let b = c.next_free.new.b in
    let z = c.store_at.new.over in
    let reads = c.in-Ok-Some.ensures.reads in
    let told_b : IsTrue (under b).told = reads.looks.passes.lasts.told ∙ told in
    let n = c.in-Ok-Some.number in
    let least = sym c.in-Ok-Some.field-0-is ∙ c.in-Ok-Some.ensures.least told (c.requires.known told) in
    stored_weaker p (λ k. (k ≡ n) × TakenStay desc (overlay_content b) (overlay_content z)) (λ k. TakesNext desc s.number None (overlay_content a) k × TakenStay desc (overlay_content a) (overlay_content z))
    (λ k both. (next_taken desc s (overlay_content a) n k c.requires.at least both.0, then_stays desc (overlay_content a) (overlay_content b) (overlay_content z) (same_stays desc (overlay_content a) (overlay_content b) (seen_still reads told)) both.1))
    (h told_b)) c.store_at.ensures.taken
