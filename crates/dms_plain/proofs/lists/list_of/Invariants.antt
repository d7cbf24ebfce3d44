use Rattle.dms_desc.specs.Shape.{shape_of}
use Rattle.dms_plain.specs.Listed.{IsListOf}
use Rattle.dms_plain.proofs.Following.{first_rows}
use Rattle.dms_plain.proofs.lists.list_of.Given as goal

abbrev pub invariant-loop-row : goal.invariant-loop-row
invariant-loop-row l = IsListOf (shape_of l.s) l.members (first_rows l.rows l.row-index)
