use Rattle.std.proofs.Common.{◌≡◌, ◌+◌, ◌≤◌, length, slice_get}
use Rattle.std.specs.Prelude.{IsTrue}
use Rattle.dms_shapes.specs.Marks.{AreBelow}
use Rattle.dms_shapes.proofs.LevelSteps.{LevelSoFar}
use Rattle.dms_view.specs.Looked.{LooksOn}
use Rattle.dms_shapes.proofs.level.level_under.Given as goal

abbrev pub invariant-loop-place : goal.invariant-loop-place
invariant-loop-place g l = record {
  so_far : IsTrue g.V.View.tells → AreBelow (length (g.V.View.content l.fn.view l.fn.file)) l.level.numbers.items → length l.level.fences.items + 1 ≡ length l.level.numbers.items
      → LevelSoFar l.fn.width l.fn.root (slice_get (g.V.View.content l.fn.view l.fn.file)) l.level.numbers.items l.level.fences.items l.place l.under.numbers.items l.under.fences.items;
  few : length l.under.numbers.items ≤ l.fn.room;
  looks : LooksOn g.V.View l.fn.view l.view;
}
