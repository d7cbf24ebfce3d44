use Rattle.std.proofs.Common.{ℕ, ◌≡◌, ◌≤◌, ◌<◌, ◌-◌, get_or}
use Rattle.dms_opening.proofs.cutting.used_counts.Given as goal

abbrev pub invariant-loop-number : goal.invariant-loop-number
invariant-loop-number l = record {
  within : l.used ≤ l.number;
  rest : (i : ℕ) → l.used ≤ i → i < l.number → get_or l.counts i 0 ≡ 0;
  last : 0 < l.used → 0 < get_or l.counts (l.used - 1) 0;
}
