use Rattle.std.proofs.Common.{ℕ, ◌≤◌, ◌≡◌, drop}
use Rattle.dms_site.specs.Files.{Files}
use Rattle.dms_history.specs.Pick.{reached_count}
use Rattle.dms_restore.specs.LiveEntries.{events_at}
use Rattle.dms_opening.proofs.point_counts.counted_from.Given as goal

abbrev pub invariant-loop-i : goal.invariant-loop-i
invariant-loop-i l = record {
  within : l.from ≤ l.i;
  counts : (files : Files) (f : ℕ) → reached_count f 0 (events_at files l.live) ≡ reached_count f 0 (events_at files (drop l.from l.live));
}
