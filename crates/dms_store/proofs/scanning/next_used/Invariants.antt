use Rattle.std.proofs.Common.{◌≡◌, ◌+◌, ◌-◌, ◌≤◌, ℕ, drop, take, Ok}
use Rattle.std.specs.Prelude.{IsTrue}
use Rattle.dms_block.specs.View.{ReadsOverlay, overlay_content, under}
use Rattle.dms_desc.specs.Shape.{shape_of}
use Rattle.dms_desc.specs.Files.{file_of}
use Rattle.dms_slots.specs.SlotBlocks.{slots_of}
use Rattle.dms_store.specs.Scans.{first_used}
use Rattle.dms_store.proofs.scanning.next_used.Given as goal

abbrev pub invariant-loop-i : goal.invariant-loop-i
invariant-loop-i g l = record {
  reads : ReadsOverlay {T = ℕ} (l.i - l.from) (Ok 0) l.fn.over l.over;
  bound : l.i - l.from ≤ l.count;
  faults : (under l.over).faults ≡ (under l.fn.over).faults;
  on : IsTrue (under l.fn.over).told → first_used l.owner (1 + l.from) (drop l.from (take l.s.population (slots_of (shape_of l.s) (overlay_content l.fn.over (file_of l.s.number))))) ≡ first_used l.owner (1 + l.i) (drop l.i (take l.s.population (slots_of (shape_of l.s) (overlay_content l.fn.over (file_of l.s.number)))));
}
