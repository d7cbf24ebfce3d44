use Rattle.std.proofs.Common.{◌+◌, ◌≤◌, ◌≡◌, drop}
use Rattle.dms_restore.specs.Replayed.{change_count}
use Rattle.dms_restore.proofs.replaying.count_changes.Given as goal

abbrev pub invariant-loop-entry : goal.invariant-loop-entry
invariant-loop-entry l = record {
  counted : l.count + change_count (drop l.entry-index l.entries) ≡ change_count l.entries;
  few : l.count ≤ l.entry-index;
}
