use Rattle.std.proofs.Common.{◌≡◌, drop}
use Rattle.std.specs.List.{list_any}
use Rattle.dms_desc.specs.Shape.{as_described}
use Rattle.dms_model.specs.Uses.{is_entered}
use Rattle.dms_plain.proofs.uses.is_entered.Given as goal

abbrev pub invariant-loop-entry : goal.invariant-loop-entry
invariant-loop-entry l = list_any (is_entered (as_described l.desc) l.set l.number) (drop l.entry-index l.entries) ≡ list_any (is_entered (as_described l.desc) l.set l.number) l.entries
