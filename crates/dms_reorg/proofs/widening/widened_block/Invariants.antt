use Rattle.std.proofs.Common.{◌≡◌, ℕ, Ok}
use Rattle.std.specs.Prelude.{IsTrue}
use Rattle.dms_block.specs.View.{ReadsOverlay, under}
use Rattle.dms_desc.specs.Shape.{shape_of}
use Rattle.dms_slots.specs.Seen.{blocks_of}
use Rattle.dms_slots.specs.SlotBlocks.{slot_at}
use Rattle.dms_reorg.specs.Widened.{LaidUpTo, up_to}
use Rattle.dms_reorg.proofs.widening.widened_block.Given as goal

abbrev pub invariant-loop-place : goal.invariant-loop-place
invariant-loop-place g l = record {
  reads : ReadsOverlay {T = ℕ} l.place (Ok 0) l.fn.over l.over;
  faults : (under l.over).faults ≡ (under l.fn.over).faults;
  laid : IsTrue (under l.fn.over).told → LaidUpTo (shape_of l.t) l.first (up_to l.last (slot_at (shape_of l.s) (blocks_of (shape_of l.s) l.fn.over))) l.block l.place l.made.0;
}
