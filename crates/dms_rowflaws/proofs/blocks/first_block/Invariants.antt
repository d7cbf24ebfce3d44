use Rattle.std.proofs.Common.{◌≡◌, ◌-◌}
use Rattle.std.specs.Prelude.{IsTrue}
use Rattle.dms_desc.specs.Shape.{as_described}
use Rattle.dms_rowflaws.specs.Blocks.{block_flaw, unformed_at}
use Rattle.dms_rowflaws.specs.Numbers.{first_from}
use Rattle.dms_view.specs.Looked.{LooksOn}
use Rattle.dms_rowflaws.proofs.blocks.first_block.Given as goal

abbrev pub invariant-loop-number : goal.invariant-loop-number
invariant-loop-number g l = record {
  walked : IsTrue g.V.View.tells → first_from (unformed_at (as_described l.fn.desc) (g.V.View.content l.fn.view)) (201 - l.number) l.number ≡ block_flaw (as_described l.fn.desc) (g.V.View.content l.fn.view);
  looks : LooksOn g.V.View l.fn.view l.view;
}
