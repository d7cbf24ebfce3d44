use Rattle.std.proofs.Common.{◌≡◌, ◌+◌, ◌≤◌, length, slice_get}
use Rattle.std.specs.Prelude.{IsTrue}
use Rattle.dms_shapes.proofs.Descents.{Descended}
use Rattle.dms_view.specs.Looked.{LooksOn}
use Rattle.dms_shapes.proofs.descent.levels_under.Given as goal

abbrev pub invariant-loop-turn : goal.invariant-loop-turn
invariant-loop-turn g l = record {
  down : IsTrue g.V.View.tells → length l.fn.seen ≡ length (g.V.View.content l.fn.view l.fn.file)
      → Descended l.fn.width (slice_get (g.V.View.content l.fn.view l.fn.file)) l.fn.root l.fn.seen l.seen l._turn l.met l.level.numbers.items l.level.fences.items;
  few : l.met + length l.level.numbers.items ≤ length l.fn.seen;
  long : length l.seen ≡ length l.fn.seen;
  looks : LooksOn g.V.View l.fn.view l.view;
}
