use Rattle.std.proofs.Common.{◌≡◌, drop, None, length, slice_get}
use Rattle.std.specs.Prelude.{IsTrue}
use Rattle.dms_shapes.specs.Leafage.{are_leaves, bar_before}
use Rattle.dms_shapes.specs.Marks.{AreBelow}
use Rattle.dms_view.specs.Looked.{LooksOn}
use Rattle.dms_shapes.proofs.leafage.are_leaves.Given as goal

abbrev pub invariant-loop-place : goal.invariant-loop-place
invariant-loop-place g l = record {
  walked : IsTrue g.V.View.tells → AreBelow (length (g.V.View.content l.fn.view l.fn.file)) l.level.numbers.items → are_leaves l.fn.width l.fn.root (slice_get (g.V.View.content l.fn.view l.fn.file)) (bar_before l.level.fences.items l.place) (drop l.place l.level.numbers.items) (drop l.place l.level.fences.items)
      ≡ are_leaves l.fn.width l.fn.root (slice_get (g.V.View.content l.fn.view l.fn.file)) None l.level.numbers.items l.level.fences.items;
  looks : LooksOn g.V.View l.fn.view l.view;
}
