use Rattle.std.proofs.Common.{◌≡◌, drop}
use Rattle.dms_restore.specs.Replayed.{has_change}
use Rattle.dms_restore.proofs.replaying.has_change.Given as goal

abbrev pub invariant-loop-entry : goal.invariant-loop-entry
invariant-loop-entry l = has_change l.entries ≡ has_change (drop l.entry-index l.entries)
