use Rattle.std.proofs.Common.{◌≡◌, ◌+◌, ◌-◌}
use Rattle.dms_desc.specs.Shape.{shape_of}
use Rattle.dms_slots.specs.SlotBlocks.{slot_chunks, before_free, per_block}
use Rattle.dms_slots.proofs.cutting.before_free.Given as goal

abbrev pub invariant-loop-i : goal.invariant-loop-i
invariant-loop-i l = before_free (slot_chunks (shape_of l.s) (per_block l.s.items) l.bytes) ≡ l.i + before_free (slot_chunks (shape_of l.s) (per_block l.s.items - l.i) l.rest)
