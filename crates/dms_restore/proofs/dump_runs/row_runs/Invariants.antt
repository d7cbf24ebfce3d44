use Rattle.std.proofs.Common.{ℕ, ◌≡◌, ◌<◌, true, take}
use Rattle.dms_history.specs.Entries.{counts_in, named_by}
use Rattle.dms_dump.specs.HeadSeen.{head_seen}
use Rattle.dms_restore.specs.Counts.{count_of}
use Rattle.dms_restore.specs.Planned.{AreRunsOf, IsInRuns}
use Rattle.dms_restore.proofs.dump_runs.row_runs.Given as goal

abbrev pub invariant-loop-row : goal.invariant-loop-row
invariant-loop-row l = record {
  are : AreRunsOf (head_seen l.head) l.dump l.counts l.runs.items;
  all : (f b : ℕ) → named_by (take l.row-index l.rows) f b ≡ true → b < counts_in l.head.counts.items f → b < count_of l.counts f → IsInRuns f b l.runs.items;
  only : (f b : ℕ) → IsInRuns f b l.runs.items → named_by (take l.row-index l.rows) f b ≡ true;
}
