use Rattle.std.proofs.Common.{◌≡◌, ◌∙◌, ◌<◌, ◌≤◌, ℕ, Bool, Option, IfSome, IsTrue, None, Some, ap, subst, sym, arith}
use Rattle.std.specs.declared.result.Result.TheVariants.{Ok, Err}
use Rattle.dms_block.specs.View.{overlay_content, under}
use Rattle.dms_chain.specs.SeenLaws.{causes_err, causes_since, counts_still}
use Rattle.dms_desc.specs.Files.{file_of}
use Rattle.dms_desc.specs.Shape.{shape_of}
use Rattle.dms_layout.specs.Slots.{SlotFits}
use Rattle.dms_layout.specs.declared.slot.Slot.{Slot}
use Rattle.dms_layout.specs.declared.slot.SlotRead.TheVariants.{Used}
use Rattle.dms_slots.specs.Seen.{BadAt, count_of}
use Rattle.dms_slots.specs.SlotBlocks.{block_of, slot_at, slot_opt}
use Rattle.dms_links.specs.Altered.{after_fits, slot_after}
use Rattle.dms_links.specs.Altering.{altered_is, failed_read, read_alone, read_memory, read_write, stuck_full, stuck_none, writes_as, writes_err}
use Rattle.dms_links.specs.WalkedLaws.{bad_since}
use Rattle.dms_links.proofs.altering.alter.Goals as goal

pub returns-in-Err-clause-writes : goal.returns-in-Err-clause-writes
returns-in-Err-clause-writes g c =
    failed_read 1 (BadAt (shape_of c.args.s.now) (block_of c.args.s.now.items c.args.number) c.args.over.now) c.in-Err.e c.args.over.now c.read_slot.new.b c.in-Err.ensures.reads c.in-Err.ensures.causes

pub returns-in-Err-clause-causes : goal.returns-in-Err-clause-causes
returns-in-Err-clause-causes g c =
    let bad = BadAt (shape_of c.args.s.now) (block_of c.args.s.now.items c.args.number) c.args.over.now in
    causes_err (Option Slot) Bool bad bad c.in-Err.e (under c.args.over.now) (under c.read_slot.new.b) (λ f k h. h) c.in-Err.ensures.causes

pub returns-in-Ok-None-clause-writes : goal.returns-in-Ok-None-clause-writes
returns-in-Ok-None-clause-writes g c = read_alone 1 _ c.args.over.now c.read_slot.new.b c.in-Ok-None.ensures.reads c.in-Ok-None.ensures.causes

pub returns-in-Ok-None-clause-altered : goal.returns-in-Ok-None-clause-altered
returns-in-Ok-None-clause-altered g c told =
    stuck_none (shape_of c.args.s.now) c.args.number c.args.change c.args.over.now c.read_slot.new.b told c.in-Ok-None.ensures.reads (c.in-Ok-None.ensures.slot told ∙ ap slot_opt c.in-Ok-None.field-0-is)

pub returns-in-Err-slot_after-clause-writes : goal.returns-in-Err-slot_after-clause-writes
returns-in-Err-slot_after-clause-writes g c = read_memory 1 c.args.over.now c.read_slot.new.b c.in-Ok-Some.ensures.reads c.in-Ok-Some.ensures.causes

pub returns-in-Ok-None-slot_after-clause-writes : goal.returns-in-Ok-None-slot_after-clause-writes
returns-in-Ok-None-slot_after-clause-writes g c = read_alone 1 _ c.args.over.now c.read_slot.new.b c.in-Ok-Some.ensures.reads c.in-Ok-Some.ensures.causes

pub returns-in-Ok-None-slot_after-clause-altered : goal.returns-in-Ok-None-slot_after-clause-altered
returns-in-Ok-None-slot_after-clause-altered g c told =
    let s = shape_of c.args.s.now in
    let full : slot_after s.items c.args.change c.in-Ok-Some.slot ≡ None = sym (c.in-Ok-None-slot_after.ensures ∙ ap (λ is. slot_after is c.args.change c.in-Ok-Some.slot) c.as_slice.ensures) ∙ c.in-Ok-None-slot_after.field-0-is in
    stuck_full s c.args.number c.args.change c.args.over.now c.read_slot.new.b told c.in-Ok-Some.slot c.in-Ok-Some.ensures.reads (c.in-Ok-Some.ensures.slot told ∙ ap slot_opt c.in-Ok-Some.field-0-is) full

pub write_slot-requires-clause-sound : goal.write_slot-requires-clause-sound
write_slot-requires-clause-sound g c = c.in-Ok-Some.ensures.reads.looks.stays.sound

pub write_slot-requires-clause-owned : goal.write_slot-requires-clause-owned
write_slot-requires-clause-owned g c =
    subst (λ (owns : ℕ → Bool). IsTrue (owns (file_of c.args.s.now.number))) (sym c.in-Ok-Some.ensures.reads.looks.passes.lasts.owns) c.requires.owned

pub write_slot-requires-clause-next : goal.write_slot-requires-clause-next
write_slot-requires-clause-next g c =
    let s = shape_of c.args.s.now in
    let there = subst (λ (o : Option Slot). IfSome o (λ x. block_of s.items c.args.number < count_of s c.args.over.now)) c.in-Ok-Some.field-0-is c.in-Ok-Some.ensures.there in
    omega (arith, there, ap (λ (k : ℕ → ℕ). k (file_of s.number)) (counts_still c.in-Ok-Some.ensures.reads))

pub write_slot-requires-clause-values : goal.write_slot-requires-clause-values
write_slot-requires-clause-values g c =
    let s = shape_of c.args.s.now in
    let fits = subst (λ (o : Option Slot). IfSome o (SlotFits s)) c.in-Ok-Some.field-0-is c.in-Ok-Some.ensures.fits in
    let next : slot_after s.items c.args.change c.in-Ok-Some.slot ≡ Some c.in-Ok-Some-slot_after.next = sym (c.in-Ok-Some-slot_after.ensures ∙ ap (λ is. slot_after is c.args.change c.in-Ok-Some.slot) c.as_slice.ensures) ∙ c.in-Ok-Some-slot_after.field-0-is in
    (after_fits s c.args.change c.in-Ok-Some.slot c.in-Ok-Some-slot_after.next c.requires.may fits next).values

pub returns-in-Err-write_slot-clause-writes : goal.returns-in-Err-write_slot-clause-writes
returns-in-Err-write_slot-clause-writes g c =
    let s = shape_of c.args.s.now in
    let y = c.read_slot.new.b in
    let z = c.write_slot.new.b in
    writes_err {T = Unit {0}} 1 c.in-Err-write_slot.e c.args.over.now z
    (read_write 1 (BadAt s (block_of s.items c.args.number) y) (Err c.in-Err-write_slot.e) c.args.over.now y z g.met.B.Blocks.same_then c.in-Ok-Some.ensures.reads c.in-Ok-Some.ensures.causes c.in-Err-write_slot.ensures.writes c.in-Err-write_slot.ensures.causes)

pub returns-in-Err-write_slot-clause-causes : goal.returns-in-Err-write_slot-clause-causes
returns-in-Err-write_slot-clause-causes g c =
    let s = shape_of c.args.s.now in
    let a = c.args.over.now in
    let y = c.read_slot.new.b in
    let z = c.write_slot.new.b in
    let k = block_of s.items c.args.number in
    let reads = c.in-Ok-Some.ensures.reads in
    causes_err (Unit {0}) Bool (BadAt s k a) (BadAt s k a) c.in-Err-write_slot.e (under a) (under z) (λ f i h. h)
    (causes_since {U = Unit {0}} (BadAt s k y) (BadAt s k a) (Err c.in-Err-write_slot.e) a y z (λ f i h. (bad_since s a y reads f i h.0, h.1)) c.in-Ok-Some.ensures.causes reads c.in-Err-write_slot.ensures.causes)

pub returns-clause-writes : goal.returns-clause-writes
returns-clause-writes g c =
    let s = shape_of c.args.s.now in
    let y = c.read_slot.new.b in
    let z = c.write_slot.new.b in
    writes_as 1 _ c.args.over.now z
    (read_write 1 (BadAt s (block_of s.items c.args.number) y) (Ok tt) c.args.over.now y z g.met.B.Blocks.same_then c.in-Ok-Some.ensures.reads c.in-Ok-Some.ensures.causes c.in-Ok.ensures.writes c.in-Ok.ensures.causes)

pub returns-clause-altered : goal.returns-clause-altered
returns-clause-altered g c told =
    let s = shape_of c.args.s.now in
    let a = c.args.over.now in
    let y = c.read_slot.new.b in
    let reads = c.in-Ok-Some.ensures.reads in
    let agrees = g.met.B.Blocks.agrees a.below c.requires.sound in
    let was : slot_at s (overlay_content a (file_of s.number)) c.args.number ≡ Used c.in-Ok-Some.slot = c.in-Ok-Some.ensures.slot told ∙ ap slot_opt c.in-Ok-Some.field-0-is in
    let fits = subst (λ (o : Option Slot). IfSome o (SlotFits s)) c.in-Ok-Some.field-0-is c.in-Ok-Some.ensures.fits in
    let there = subst (λ (o : Option Slot). IfSome o (λ x. block_of s.items c.args.number < count_of s a)) c.in-Ok-Some.field-0-is c.in-Ok-Some.ensures.there in
    let next : slot_after s.items c.args.change c.in-Ok-Some.slot ≡ Some c.in-Ok-Some-slot_after.next = sym (c.in-Ok-Some-slot_after.ensures ∙ ap (λ is. slot_after is c.args.change c.in-Ok-Some.slot) c.as_slice.ensures) ∙ c.in-Ok-Some-slot_after.field-0-is in
    let told_y : IsTrue (under y).told = reads.looks.passes.lasts.told ∙ told in
    altered_is s c.args.number c.args.change a y told c.in-Ok-Some.slot c.in-Ok-Some-slot_after.next (overlay_content c.write_slot.new.b) reads agrees c.requires.may was fits there next (c.in-Ok.ensures.seen told_y)
