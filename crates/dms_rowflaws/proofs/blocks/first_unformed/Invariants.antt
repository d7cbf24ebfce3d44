use Rattle.std.proofs.Common.{◌≡◌, drop}
use Rattle.std.specs.Prelude.{IsTrue}
use Rattle.dms_desc.specs.Shape.{shape_of}
use Rattle.dms_rowflaws.specs.Blocks.{first_unformed}
use Rattle.dms_view.specs.Looked.{LooksOn}
use Rattle.dms_rowflaws.proofs.blocks.first_unformed.Given as goal

abbrev pub invariant-loop-number : goal.invariant-loop-number
invariant-loop-number g l = record {
  walked : IsTrue g.V.View.tells → first_unformed (shape_of l.fn.s) l.fn.width l.number (drop l.number (g.V.View.content l.fn.view l.fn.file)) ≡ first_unformed (shape_of l.fn.s) l.fn.width 0 (g.V.View.content l.fn.view l.fn.file);
  looks : LooksOn g.V.View l.fn.view l.view;
}
