use Rattle.std.proofs.Common.{◌≡◌, length, slice_get}
use Rattle.std.specs.Prelude.{IsTrue}
use Rattle.dms_shapes.specs.Walks.{HasSpares}
use Rattle.dms_view.specs.Looked.{LooksOn}
use Rattle.dms_shapes.proofs.spares.spares_from.Given as goal

abbrev pub invariant-loop-met : goal.invariant-loop-met
invariant-loop-met g l = record {
  walked : IsTrue g.V.View.tells → length l.fn.seen ≡ length (g.V.View.content l.fn.view l.fn.file) → HasSpares (slice_get (g.V.View.content l.fn.view l.fn.file)) l.fn.first l.fn.seen l.seen l.met l.at;
  looks : LooksOn g.V.View l.fn.view l.view;
  long : length l.seen ≡ length l.fn.seen;
}
