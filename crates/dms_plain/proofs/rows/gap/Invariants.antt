use Rattle.std.proofs.Common.{◌-◌}
use Rattle.dms_plain.proofs.Gaps.{IsHalfway}
use Rattle.dms_plain.proofs.rows.gap.Given as goal

abbrev pub invariant-loop-low : goal.invariant-loop-low
invariant-loop-low l = IsHalfway l.rows l.from l.low l.high

abbrev pub decreases-loop-low : goal.decreases-loop-low
decreases-loop-low l = l.high - l.low
