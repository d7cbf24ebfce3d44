use Rattle.std.proofs.Common.{◌≡◌, ◌-◌, ℕ, take, Ok}
use Rattle.std.specs.Prelude.{IsTrue}
use Rattle.dms_block.specs.View.{ReadsOverlay, overlay_content, under}
use Rattle.dms_desc.specs.Shape.{shape_of}
use Rattle.dms_desc.specs.Files.{file_of}
use Rattle.dms_slots.specs.SlotBlocks.{slots_of}
use Rattle.dms_store.specs.Scans.{last_used}
use Rattle.dms_store.proofs.scanning.last_used.Given as goal

abbrev pub invariant-loop-i : goal.invariant-loop-i
invariant-loop-i g l = record {
  reads : ReadsOverlay {T = ℕ} l.i (Ok 0) l.fn.over l.over;
  faults : (under l.over).faults ≡ (under l.fn.over).faults;
  on : IsTrue (under l.fn.over).told → last_used l.owner 1 (take l.stop (slots_of (shape_of l.s) (overlay_content l.fn.over (file_of l.s.number)))) ≡ last_used l.owner 1 (take (l.stop - l.i) (slots_of (shape_of l.s) (overlay_content l.fn.over (file_of l.s.number))));
}
