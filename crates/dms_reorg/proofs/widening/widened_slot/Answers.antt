use Rattle.std.proofs.Common.{◌≤◌, ◌∙◌, IfSome, ap, length, subst, arith}
use Rattle.dms_desc.specs.Shape.{shape_of}
use Rattle.dms_layout.specs.Slots.{slot_bytes, SlotFits}
use Rattle.dms_layout.specs.declared.slot.Slot.{Slot}
use Rattle.dms_slots.specs.Seen.{blocks_of}
use Rattle.dms_slots.specs.SlotBlocks.{slot_at, slot_opt}
use Rattle.dms_reorg.proofs.Capped.{up_within}
use Rattle.dms_reorg.proofs.Laying.{slot_bytes_long, slot_is_widened}
use Rattle.dms_reorg.proofs.widening.widened_slot.Goals as goal

pub returns-in_ok-to_slot-in-Some-clause-slot : goal.returns-in_ok-to_slot-in-Some-clause-slot
returns-in_ok-to_slot-in-Some-clause-slot g c tells =
    let s = shape_of c.args.s.now in
    let t = shape_of c.args.t.now in
    let fits = subst (λ o. IfSome o (SlotFits s)) c.in-Some.is c.in_ok-read_slot.ensures.fits in
    let le : c.args.number ≤ c.args.last = omega (arith, c.if-number-last.false) in
    let read = up_within c.args.last (slot_at s (blocks_of s c.args.over.now)) c.args.number le ∙ c.in_ok-read_slot.ensures.slot tells ∙ ap slot_opt c.in-Some.is in
    slot_is_widened s t c.args.first.now c.in-Some.slot _ _ c.requires.widens fits read (c.in_ok-to_slot-in-Some.ensures ∙ ap (λ (w : Slot). slot_bytes t.items w) c.in_ok-wide-in-Some.ensures)

pub returns-in_ok-to_slot-in-Some-clause-long : goal.returns-in_ok-to_slot-in-Some-clause-long
returns-in_ok-to_slot-in-Some-clause-long g c =
    let s = shape_of c.args.s.now in
    let t = shape_of c.args.t.now in
    let fits = subst (λ o. IfSome o (SlotFits s)) c.in-Some.is c.in_ok-read_slot.ensures.fits in
    ap (λ (b : _). length b) c.in_ok-to_slot-in-Some.ensures ∙ ap (λ (w : Slot). length (slot_bytes t.items w)) c.in_ok-wide-in-Some.ensures
    ∙ slot_bytes_long s t c.args.first.now c.in-Some.slot c.requires.widens fits
