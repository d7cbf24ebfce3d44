use Rattle.std.proofs.Common.{◌≡◌, drop}
use Rattle.std.specs.List.{list_any}
use Rattle.dms_desc.specs.Shape.{as_described}
use Rattle.dms_model.specs.Uses.{owns_entry}
use Rattle.dms_plain.proofs.uses.owns_entries.Given as goal

abbrev pub invariant-loop-entry : goal.invariant-loop-entry
invariant-loop-entry l = list_any (owns_entry (as_described l.desc) l.set l.number) (drop l.entry-index l.entries) ≡ list_any (owns_entry (as_described l.desc) l.set l.number) l.entries
