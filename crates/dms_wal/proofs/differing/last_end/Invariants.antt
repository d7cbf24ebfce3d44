use Rattle.std.proofs.Common.{◌-◌}
use Rattle.dms_wal.specs.Differing.{SameFrom}
use Rattle.dms_wal.proofs.differing.last_end.Given as goal

abbrev pub invariant-loop-passed : goal.invariant-loop-passed
invariant-loop-passed l = SameFrom (1024 - l.passed) l.before l.after
