use Rattle.std.proofs.Common.{◌≡◌, ◌-◌}
use Rattle.dms_desc.specs.Shape.{shape_of}
use Rattle.dms_slots.specs.SlotBlocks.{per_block}
use Rattle.dms_rows.specs.Rows.{are_raw_slots}
use Rattle.dms_rows.proofs.rows.is_row_block.Given as goal

abbrev pub invariant-loop-i : goal.invariant-loop-i
invariant-loop-i l = are_raw_slots (shape_of l.s) (per_block l.s.items - l._i) l.rest ≡ are_raw_slots (shape_of l.s) (per_block l.s.items) l.block.0
