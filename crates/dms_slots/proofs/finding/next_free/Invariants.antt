use Rattle.std.proofs.Common.{◌≡◌, ◌+◌, ◌*◌, ℕ, drop, Ok}
use Rattle.std.specs.Prelude.{IsTrue}
use Rattle.dms_desc.specs.Shape.{shape_of}
use Rattle.dms_block.specs.View.{ReadsOverlay, overlay_content, under}
use Rattle.dms_desc.specs.Files.{file_of}
use Rattle.dms_slots.specs.SlotBlocks.{slots_of, before_free, AreTaken}
use Rattle.dms_slots.proofs.finding.next_free.Given as goal

abbrev pub invariant-loop-i : goal.invariant-loop-i
invariant-loop-i g l = record {
  reads : ReadsOverlay {T = ℕ} l.i (Ok 0) l.fn.b l.b;
  faults : (under l.b).faults ≡ (under l.fn.b).faults;
  used : IsTrue (under l.fn.b).told → AreTaken (shape_of l.s) (overlay_content l.fn.b (file_of l.s.number)) l.fn.taken → before_free (slots_of (shape_of l.s) (overlay_content l.fn.b (file_of l.s.number))) ≡ l.i * l.per + before_free (slots_of (shape_of l.s) (drop l.i (overlay_content l.fn.b (file_of l.s.number))));
}
