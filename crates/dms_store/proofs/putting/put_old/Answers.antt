use Rattle.std.proofs.Common.{◌≡◌, ◌∙◌, ◌<◌, IsTrue, ◌^◌, IfSome, Option, Some, ap, subst, sym, arith}
use Rattle.std.proofs.lemmas.Result.{IfOk-weaker}
use Rattle.dms_block.specs.Content.{Content}
use Rattle.dms_block.specs.HeldLaws.{causes_or_on}
use Rattle.dms_block.specs.View.{overlay_content, under}
use Rattle.dms_block.specs.ViewLaws.{seen_still}
use Rattle.dms_desc.specs.Shape.{as_described, shape_of}
use Rattle.dms_layout.specs.Slots.{SlotFits}
use Rattle.dms_layout.specs.declared.slot.Slot.{Slot}
use Rattle.dms_model.specs.declared.put.Put.{Put}
use Rattle.dms_model.specs.declared.put.Put.TheVariants.{Full}
use Rattle.dms_chain.specs.SeenLaws.{causes_err}
use Rattle.dms_slots.specs.Seen.{BadAt}
use Rattle.dms_desc.specs.Files.{file_of}
use Rattle.dms_slots.specs.SlotBlocks.{block_of, slot_at, slot_opt}
use Rattle.dms_spelling.specs.Staying.{TakenStay, same_stays, then_stays}
use Rattle.dms_store.specs.Finding.{seen_below}
use Rattle.dms_store.specs.Addressed.{FewFound, FewStored}
use Rattle.dms_store.specs.PuttingCalls.{few_failed, few_on, few_read}
use Rattle.dms_store.specs.PuttingJudged.{gone_answers, old_answers, owner_old}
use Rattle.dms_store.specs.PuttingPlaced.{few_numbers, found_on, none_bad}
use Rattle.dms_store.specs.PuttingSpent.{moves_few, stored_old}
use Rattle.dms_store.specs.PuttingStore.{some_structure}
use Rattle.dms_store.specs.TakenLaws.{stored_weaker, told_before, used_good}
use Rattle.dms_store.proofs.putting.put_old.Goals as goal

pub returns-in-Err-clause-below : goal.returns-in-Err-clause-below
returns-in-Err-clause-below g c db told spelt =
    let s = shape_of c.args.at.now.set.now in
    let a = c.args.over.now in
    causes_err (Option Slot) Put (BadAt s (block_of s.items c.args.at.now.number) a) (λ f k. ⊥) c.in-Err.e (under a) (under c.read_slot.new.b)
    (λ f k bad. none_bad (as_described c.args.at.now.desc.now) a s db c.requires.usable c.requires.at c.requires.set told spelt f k bad.0) c.in-Err.ensures.causes

pub returns-in-Ok-None-clause-answers : goal.returns-in-Ok-None-clause-answers
returns-in-Ok-None-clause-answers g c told db spelt may =
    let s = shape_of c.args.at.now.set.now in
    let a = c.args.over.now in
    let was = ap (λ (x : Content). slot_at s (x (file_of s.number)) c.args.at.now.number) (sym (seen_below a c.requires.usable.none)) ∙ c.in-Ok-None.ensures.slot told ∙ ap slot_opt c.in-Ok-None.field-0-is in
    absurd (gone_answers (as_described c.args.at.now.desc.now) c.requires.usable.serves.served db (under a).content (under a).content s.number s c.args.rec.now spelt c.requires.at c.requires.set c.requires.new c.args.at.now.number c.requires.low was may.named)

pub returns-in-Err-clause-enters : goal.returns-in-Err-clause-enters
returns-in-Err-clause-enters g c =
    let s = shape_of c.args.at.now.set.now in
    let a = c.args.over.now in
    few_failed _ (BadAt s (block_of s.items c.args.at.now.number) a) c.in-Err.e a c.read_slot.new.b (λ db told spelt. omega arith) c.in-Err.ensures.reads c.in-Err.ensures.causes

pub returns-in-Ok-None-clause-enters : goal.returns-in-Ok-None-clause-enters
returns-in-Ok-None-clause-enters g c = few_read _ Full c.args.over.now c.read_slot.new.b (λ db told spelt. omega arith) c.in-Ok-None.ensures.reads c.in-Ok-None.ensures.causes

pub returns-in-Ok-Some-clause-enters : goal.returns-in-Ok-Some-clause-enters
returns-in-Ok-Some-clause-enters g c =
    let desc = as_described c.args.at.now.desc.now in
    let s = shape_of c.args.at.now.set.now in
    let n = c.args.at.now.number in
    let a = c.args.over.now in
    let b = c.read_slot.new.b in
    let old = c.in-Ok-Some.old in
    let reads = c.in-Ok-Some.ensures.reads in
    few_on (FewFound c.args.at.now (Some old) b) (FewStored desc s.number (Some n) a) c.store_at.result a b c.store_at.new.over g.met.B.Blocks.same_then
    (λ k low db told spelt.
    let was = ap (λ (x : Content). slot_at s (x (file_of s.number)) n) (sym (seen_below a c.requires.usable.none)) ∙ c.in-Ok-Some.ensures.slot told ∙ ap slot_opt c.in-Ok-Some.field-0-is in
    let few = few_numbers desc s.number n s c.requires.usable.serves.served c.requires.at c.requires.most in
    let small : n < 2 ^ 32 = omega (arith, few) in
    stored_old c.args.at.now k (some_structure desc s.number s c.requires.at) (Some old.rec) db (moves_few desc c.requires.usable.serves.served (under a).content db spelt s.number n small (Some old.rec))
    (low db (found_on desc a b c.requires.usable db told spelt reads s n (Some old) was)))
    reads c.in-Ok-Some.ensures.causes c.store_at.ensures.enters

pub returns-in-Ok-Some-clause-below : goal.returns-in-Ok-Some-clause-below
returns-in-Ok-Some-clause-below g c db told spelt =
    let desc = as_described c.args.at.now.desc.now in
    let s = shape_of c.args.at.now.set.now in
    let a = c.args.over.now in
    let b = c.read_slot.new.b in
    let reads = c.in-Ok-Some.ensures.reads in
    let was = ap (λ (x : Content). slot_at s (x (file_of s.number)) c.args.at.now.number) (sym (seen_below a c.requires.usable.none)) ∙ c.in-Ok-Some.ensures.slot told ∙ ap slot_opt c.in-Ok-Some.field-0-is in
    causes_or_on (λ f k. ⊥) (λ f k. ⊥) c.store_at.result (under a) (under b) (under c.store_at.new.over) (λ f k h. h) c.in-Ok-Some.ensures.causes reads.looks.passes.lasts reads.looks.same
    (c.store_at.ensures.below db (found_on desc a b c.requires.usable db told spelt reads s c.args.at.now.number (Some c.in-Ok-Some.old) was))

pub returns-in-Ok-Some-clause-answers : goal.returns-in-Ok-Some-clause-answers
returns-in-Ok-Some-clause-answers g c =
    IfOk-weaker c.store_at.result _ _ (λ p h told db spelt may.
    let desc = as_described c.args.at.now.desc.now in
    let s = shape_of c.args.at.now.set.now in
    let a = c.args.over.now in
    let b = c.read_slot.new.b in
    let reads = c.in-Ok-Some.ensures.reads in
    let was = ap (λ (x : Content). slot_at s (x (file_of s.number)) c.args.at.now.number) (sym (seen_below a c.requires.usable.none)) ∙ c.in-Ok-Some.ensures.slot told ∙ ap slot_opt c.in-Ok-Some.field-0-is in
    let fits = subst (λ (o : Option Slot). IfSome o (SlotFits s)) c.in-Ok-Some.field-0-is c.in-Ok-Some.ensures.fits in
    let few = few_numbers desc s.number c.args.at.now.number s c.requires.usable.serves.served c.requires.at c.requires.most in
    let small : c.args.at.now.number < 2 ^ 32 = omega (arith, few) in
    let found = found_on desc a b c.requires.usable db told spelt reads s c.args.at.now.number (Some c.in-Ok-Some.old) was in
    old_answers desc c.requires.usable.serves.served db (under a).content (overlay_content c.store_at.new.over) s.number s c.args.rec.now spelt c.requires.at c.requires.set c.requires.new c.args.at.now.number c.in-Ok-Some.old p c.requires.low small was fits
    (h db found (owner_old db s c.in-Ok-Some.old c.args.rec.now))) c.store_at.ensures.entered

pub store_at-requires-clause-sound : goal.store_at-requires-clause-sound
store_at-requires-clause-sound g c told_b =
    let s = shape_of c.args.at.now.set.now in
    let reads = c.in-Ok-Some.ensures.reads in
    let told : IsTrue (under c.args.over.now).told = told_before reads.looks.passes.lasts told_b in
    let was = c.in-Ok-Some.ensures.slot told ∙ ap slot_opt c.in-Ok-Some.field-0-is in
    λ bad. used_good c.in-Ok-Some.old (sym was ∙ ap (λ (x : Content). slot_at s (x (file_of s.number)) c.args.at.now.number) (sym (seen_still reads told)) ∙ bad)

pub returns-in-Ok-Some-clause-taken : goal.returns-in-Ok-Some-clause-taken
returns-in-Ok-Some-clause-taken g c =
    IfOk-weaker c.store_at.result _ _ (λ p h told.
    let desc = as_described c.args.at.now.desc.now in
    let a = c.args.over.now in
    let b = c.read_slot.new.b in
    let z = c.store_at.new.over in
    let reads = c.in-Ok-Some.ensures.reads in
    let told_b : IsTrue (under b).told = reads.looks.passes.lasts.told ∙ told in
    let n = c.args.at.now.number in
    stored_weaker p (λ k. (k ≡ n) × TakenStay desc (overlay_content b) (overlay_content z)) (λ k. (k ≡ n) × TakenStay desc (overlay_content a) (overlay_content z))
    (λ k both. (both.0, then_stays desc (overlay_content a) (overlay_content b) (overlay_content z) (same_stays desc (overlay_content a) (overlay_content b) (seen_still reads told)) both.1))
    (h told_b)) c.store_at.ensures.taken
