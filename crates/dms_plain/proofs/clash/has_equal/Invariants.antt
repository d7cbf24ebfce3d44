use Rattle.std.proofs.Common.{◌≡◌, drop}
use Rattle.dms_desc.specs.Shape.{shape_of}
use Rattle.dms_model.specs.Stores.{has_equal}
use Rattle.dms_plain.specs.Rows.{entries_of}
use Rattle.dms_plain.proofs.clash.has_equal.Given as goal

abbrev pub invariant-loop-row : goal.invariant-loop-row
invariant-loop-row l =
    has_equal (shape_of l.s) l.manual.entries l.number (record { owner = l.owner; values = l.values }) (entries_of (drop l.row-index l.rows))
    ≡ has_equal (shape_of l.s) l.manual.entries l.number (record { owner = l.owner; values = l.values }) (entries_of l.rows)
