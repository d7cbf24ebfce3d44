use Rattle.std.proofs.Common.{◌≡◌, ◌-◌}
use Rattle.dms_desc.specs.Shape.{shape_of}
use Rattle.dms_slots.specs.SlotBlocks.{per_block}
use Rattle.dms_rows.specs.Alone.{first_alone}
use Rattle.dms_rows.specs.Rows.{raw_chunks}
use Rattle.dms_rows.proofs.alone.first_alone.Given as goal

abbrev pub invariant-loop-place : goal.invariant-loop-place
invariant-loop-place l = first_alone (shape_of l.s) l.place (raw_chunks (shape_of l.s) (per_block l.s.items - l.place) l.rest) ≡ first_alone (shape_of l.s) 0 (raw_chunks (shape_of l.s) (per_block l.s.items) l.block.0)
