use Rattle.std.proofs.Common.{◌≡◌, drop}
use Rattle.std.specs.List.{list_any}
use Rattle.dms_desc.specs.Shape.{shape_of}
use Rattle.dms_plain.specs.Clashes.{clashes_for_owner}
use Rattle.dms_plain.specs.Rows.{entries_of}
use Rattle.dms_plain.proofs.clash.is_refused_of.Given as goal

abbrev pub invariant-loop-entry : goal.invariant-loop-entry
invariant-loop-entry l =
    list_any (clashes_for_owner (shape_of l.s) l.manual.entries l.number l.values (entries_of l.rows)) (drop l.entry-index l.entries)
    ≡ list_any (clashes_for_owner (shape_of l.s) l.manual.entries l.number l.values (entries_of l.rows)) l.entries
