use Rattle.std.proofs.Common.{◌≡◌, drop}
use Rattle.std.specs.List.{list_any}
use Rattle.dms_desc.specs.Shape.{as_described}
use Rattle.dms_model.specs.Uses.{owns_record}
use Rattle.dms_plain.specs.Rows.{entries_of}
use Rattle.dms_plain.proofs.uses.owns_rows.Given as goal

abbrev pub invariant-loop-row : goal.invariant-loop-row
invariant-loop-row l = list_any (owns_record (as_described l.desc) l.set l.number) (entries_of (drop l.row-index l.rows)) ≡ list_any (owns_record (as_described l.desc) l.set l.number) (entries_of l.rows)
