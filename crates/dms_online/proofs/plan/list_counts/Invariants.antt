use Rattle.std.proofs.Common.{◌≡◌, take}
use Rattle.dms_restore.specs.Counts.{file_counts}
use Rattle.dms_online.proofs.plan.list_counts.Given as goal

abbrev pub invariant-loop-number : goal.invariant-loop-number
invariant-loop-number l = l.list.items ≡ file_counts 30001 (take l.number l.counts)
