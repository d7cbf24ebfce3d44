use Rattle.std.proofs.Common.{ℕ, ◌≤◌, ◌<◌, ◌≡◌, true}
use Rattle.dms_opening.specs.Short.{is_written}
use Rattle.dms_opening.proofs.short.first_unwritten.Given as goal

abbrev pub invariant-loop-round : goal.invariant-loop-round
invariant-loop-round l = record {
  from : l.from ≤ l.next;
  far : l._round ≤ l.next;
  each : (b : ℕ) → l.from ≤ b → b < l.next → is_written l.table l.file b ≡ true;
}
