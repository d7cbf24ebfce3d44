use Rattle.std.proofs.Common.{◌≡◌, ◌-◌}
use Rattle.std.specs.Prelude.{IsTrue}
use Rattle.dms_desc.specs.Lookups.{structure_of}
use Rattle.dms_desc.specs.Shape.{as_described}
use Rattle.dms_rowflaws.specs.Numbers.{first_from}
use Rattle.dms_rowflaws.specs.Shapes.{shape_flaw, unshaped_at}
use Rattle.dms_view.specs.Looked.{LooksOn}
use Rattle.dms_rowflaws.proofs.shapes.first_shape.Given as goal

abbrev pub invariant-loop-number : goal.invariant-loop-number
invariant-loop-number g l = record {
  walked : IsTrue g.V.View.tells → first_from (λ n. unshaped_at (as_described l.fn.desc) (g.V.View.content l.fn.view) n (structure_of (as_described l.fn.desc) n)) (201 - l.number) l.number ≡ shape_flaw (as_described l.fn.desc) (g.V.View.content l.fn.view);
  looks : LooksOn g.V.View l.fn.view l.view;
}
