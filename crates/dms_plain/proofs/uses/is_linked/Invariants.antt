use Rattle.std.proofs.Common.{◌≡◌, drop, true}
use Rattle.std.specs.List.{list_any}
use Rattle.dms_desc.specs.Shape.{as_described}
use Rattle.dms_model.specs.Uses.{links_to}
use Rattle.dms_plain.specs.Rows.{entries_of}
use Rattle.dms_plain.proofs.uses.is_linked.Given as goal

abbrev pub invariant-loop-row : goal.invariant-loop-row
invariant-loop-row l = list_any (links_to true (as_described l.desc) l.set l.number) (entries_of (drop l.row-index l.rows)) ≡ list_any (links_to true (as_described l.desc) l.set l.number) (entries_of l.rows)
