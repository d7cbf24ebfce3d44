use Rattle.std.proofs.Common.{◌≡◌, ℕ, Ok, false, true}
use Rattle.std.specs.Prelude.{IsTrue, ◌==◌}
use Rattle.std.specs.List.{list_all}
use Rattle.dms_block.specs.View.{under}
use Rattle.dms_desc.specs.Files.{file_of}
use Rattle.dms_desc.specs.Shape.{shape_of}
use Rattle.dms_slots.specs.Seen.{blocks_of}
use Rattle.dms_spelling.specs.Spelled.{is_whole}
use Rattle.dms_reorg.specs.Filling.{FillsList, IfMayFill}
use Rattle.dms_reorg.proofs.Filled.{IsListedUpTo}
use Rattle.dms_reorg.proofs.filling.fill_set.Given as goal

abbrev pub invariant-loop-index : goal.invariant-loop-index
invariant-loop-index g l = record {
  fills : FillsList {T = ℕ} l.s.number (Ok 0) l.fn.over l.over;
  faults : (under l.over).faults ≡ (under l.fn.over).faults;
  below : IsTrue (under l.fn.over).told → (m : ℕ) → (m == l.s.number) ≡ false → (under l.over).content (file_of m) ≡ (under l.fn.over).content (file_of m);
  whole : IfMayFill l.kinds (shape_of l.t) (shape_of l.s) l.fn.over (list_all is_whole ((under l.over).content (file_of l.s.number)) ≡ true);
  listed : IfMayFill l.kinds (shape_of l.t) (shape_of l.s) l.fn.over (IsListedUpTo l.kinds (shape_of l.t) (shape_of l.s) (blocks_of (shape_of l.t) l.fn.over) l.index l.over);
}
