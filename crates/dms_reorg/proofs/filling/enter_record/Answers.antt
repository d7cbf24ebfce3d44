use Rattle.std.proofs.Common.{◌≡◌, ◌∙◌, ℕ, Err, inr, sym}
use Rattle.dms_block.specs.declared.block_fault.BlockFault.TheVariants.{Damaged}
use Rattle.dms_block.specs.HeldLaws.{causes_or_on}
use Rattle.dms_block.specs.View.{under}
use Rattle.dms_desc.specs.Shape.{shape_of}
use Rattle.dms_lists.specs.Forms.{form_of}
use Rattle.dms_sets.specs.Changes.{list_of_set}
use Rattle.dms_sets.specs.Keeping.{FileStays, seen_list}
use Rattle.dms_sets.specs.KeepingLaws.{listed_still}
use Rattle.dms_sets.specs.Padded.{entry_width}
use Rattle.dms_reorg.specs.Filling.{RefusedIn}
use Rattle.dms_reorg.proofs.Handing.{down_after, full_none, full_since, fills_as, fills_calm, fills_fails, fills_hands, fills_on, known_causes, none_known}
use Rattle.dms_reorg.proofs.OneFile.{on_ok_map}
use Rattle.dms_reorg.proofs.filling.enter_record.Goals as goal

pub change_one-requires-clause-usable : goal.change_one-requires-clause-usable
change_one-requires-clause-usable g c = c.requires.usable

pub change_one-requires-clause-new : goal.change_one-requires-clause-new
change_one-requires-clause-new g c = c.requires.fits

pub hand_down-requires : goal.hand_down-requires
hand_down-requires g c = record { sound = (c.in-Ok-false.ensures.calm.looks c.requires.usable.0).stays.sound }

pub returns-in-Err-clause-fills : goal.returns-in-Err-clause-fills
returns-in-Err-clause-fills g c = fills_fails {T = Unit {0}} c.args.s.now.number 2 c.in-Err.fault c.args.over.now c.change_one.new.lists c.requires.usable.0 c.in-Err.ensures.fails

pub returns-in-Err-clause-causes : goal.returns-in-Err-clause-causes
returns-in-Err-clause-causes g c =
    let s = shape_of c.args.s.now in
    let a = c.args.over.now in
    let known = list_of_set (seen_list a) c.args.kinds.now s in
    known_causes known (RefusedIn c.args.kinds.now s c.args.rec.now a) c.in-Err.fault a c.change_one.new.lists c.requires.usable.0 (λ f k none xs listed. absurd (none_known known xs none listed))
    (c.in-Err.ensures.fails.causes c.requires.usable.0) c.in-Err.ensures.below

pub returns-in-Ok-true-clause-fills : goal.returns-in-Ok-true-clause-fills
returns-in-Ok-true-clause-fills g c =
    fills_as {U = Unit {0}} (Err (Damaged c.file_of.result 0)) (fills_calm {T = Unit {0}} c.args.s.now.number 2 tt c.args.over.now c.change_one.new.lists c.requires.usable.0 c.in-Ok-true.ensures.calm)

pub returns-in-Ok-true-clause-causes : goal.returns-in-Ok-true-clause-causes
returns-in-Ok-true-clause-causes g c = inr (c.in-Ok-true.ensures.calm.faults, λ xs listed. sym (c.in-Ok-true.ensures.changed xs listed).answer ∙ c.in-Ok-true.field-0-test)

pub returns-in-Ok-false-clause-entered : goal.returns-in-Ok-false-clause-entered
returns-in-Ok-false-clause-entered g c =
    let s = shape_of c.args.s.now in
    let kinds = c.args.kinds.now in
    let b = c.change_one.new.lists in
    let d = c.hand_down.new.over in
    on_ok_map c.hand_down.result (λ (seen : (m : ℕ) → FileStays m b d) xs listed room.
    listed_still b d c.args.s.now.number (form_of s) (entry_width kinds s.parts) c.hand_down.ensures.hands.passes.lasts.told (seen c.args.s.now.number)
    ∙ (c.in-Ok-false.ensures.changed xs listed).done c.in-Ok-false.field-0-test room) c.hand_down.ensures.hands.seen

pub returns-in-Ok-false-clause-fills : goal.returns-in-Ok-false-clause-fills
returns-in-Ok-false-clause-fills g c =
    let n = c.args.s.now.number in
    fills_on {T = Unit {0}} {U = Unit {0}} c.hand_down.result g.met.B.Blocks.same_then (fills_calm {T = Unit {0}} n 2 tt c.args.over.now c.change_one.new.lists c.requires.usable.0 c.in-Ok-false.ensures.calm)
    (fills_hands {T = Unit {0}} n c.hand_down.result c.change_one.new.lists c.hand_down.new.over c.hand_down.ensures.hands)

pub returns-in-Ok-false-clause-causes : goal.returns-in-Ok-false-clause-causes
returns-in-Ok-false-clause-causes g c =
    let s = shape_of c.args.s.now in
    let a = c.args.over.now in
    let calm = c.in-Ok-false.ensures.calm in
    let looks = calm.looks c.requires.usable.0 in
    causes_or_on {T = Unit {0}} (λ f k. ⊥) (RefusedIn c.args.kinds.now s c.args.rec.now a) c.hand_down.result (under a) (under c.change_one.new.lists) (under c.hand_down.new.over) (λ f k h. absurd h) calm.faults looks.passes.lasts looks.same
    c.hand_down.ensures.causes

pub returns-in-Err-clause-full : goal.returns-in-Err-clause-full
returns-in-Err-clause-full g c = full_none (Unit {0}) (Unit {0}) c.in-Err.fault (λ f. f ≡ (g.B.Blocks.pace c.args.over.now.below).last) (c.in-Err.ensures.fails.looks c.requires.usable.0).not_full

pub returns-in-Ok-false-clause-below : goal.returns-in-Ok-false-clause-below
returns-in-Ok-false-clause-below g c =
    let looks = c.in-Ok-false.ensures.calm.looks c.requires.usable.0 in
    on_ok_map c.hand_down.result (down_after c.args.over.now c.change_one.new.lists c.hand_down.new.over looks.passes.lasts looks.same) c.hand_down.ensures.below

pub returns-in-Ok-false-clause-full : goal.returns-in-Ok-false-clause-full
returns-in-Ok-false-clause-full g c =
    let a = c.args.over.now in
    let b = c.change_one.new.lists in
    full_since {T = Unit {0}} c.hand_down.result (g.B.Blocks.pace b.below) (g.B.Blocks.pace a.below) (g.met.B.Blocks.same_pace a.below b.below c.in-Ok-false.ensures.calm.same) c.hand_down.ensures.full
