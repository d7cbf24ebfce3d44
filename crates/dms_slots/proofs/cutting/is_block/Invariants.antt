use Rattle.std.proofs.Common.{◌≡◌, ◌-◌}
use Rattle.dms_desc.specs.Shape.{shape_of}
use Rattle.dms_slots.specs.SlotBlocks.{are_slots, per_block}
use Rattle.dms_slots.proofs.cutting.is_block.Given as goal

abbrev pub invariant-loop-i : goal.invariant-loop-i
invariant-loop-i l = are_slots (shape_of l.s) (per_block l.s.items - l._i) l.rest ≡ are_slots (shape_of l.s) (per_block l.s.items) l.block.0
