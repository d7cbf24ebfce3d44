use Rattle.std.proofs.Common.{◌≡◌, ◌++◌, map, take, drop}
use Rattle.dms_desc.specs.Shape.{as_described}
use Rattle.dms_model.specs.Uses.{corrected_entry}
use Rattle.dms_plain.specs.Rows.{entries_of}
use Rattle.dms_plain.proofs.removal.correct_rows.Given as goal

abbrev pub invariant-loop-row : goal.invariant-loop-row
invariant-loop-row l =
    entries_of (take l.row-index l.row-items) ++ map (corrected_entry (as_described l.desc) l.set l.number) (entries_of (drop l.row-index l.row-items))
    ≡ map (corrected_entry (as_described l.desc) l.set l.number) (entries_of l.fn.rows.items)
