use Rattle.std.proofs.Common.{◌≡◌, ◌++◌, drop}
use Rattle.dms_desc.specs.Shape.{as_described}
use Rattle.dms_plain.specs.Linkers.{linkers_in}
use Rattle.dms_plain.specs.Rows.{entries_of}
use Rattle.dms_plain.proofs.uses.linkers.Given as goal

abbrev pub invariant-loop-row : goal.invariant-loop-row
invariant-loop-row l =
    l.found ++ linkers_in (as_described l.desc) l.set l.number (entries_of (drop l.row-index l.rows))
    ≡ linkers_in (as_described l.desc) l.set l.number (entries_of l.rows)
