use Rattle.std.proofs.Common.{◌≡◌, ◌++◌, replicate}
use Rattle.dms_entries.proofs.bounds.fill.Given as goal

abbrev pub invariant-loop-i : goal.invariant-loop-i
invariant-loop-i l = l.out ≡ l.initial.out ++ replicate l._i 0
