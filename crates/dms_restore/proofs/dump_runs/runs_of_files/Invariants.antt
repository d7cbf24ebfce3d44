use Rattle.std.proofs.Common.{ℕ, ◌<◌, take}
use Rattle.dms_history.specs.Entries.{counts_in}
use Rattle.dms_dump.specs.HeadSeen.{head_seen}
use Rattle.dms_restore.specs.Counts.{count_of}
use Rattle.dms_restore.specs.Planned.{AreRunsOf, IsInRuns}
use Rattle.dms_restore.proofs.dump_runs.runs_of_files.Given as goal

abbrev pub invariant-loop-count : goal.invariant-loop-count
invariant-loop-count l = record {
  are : AreRunsOf (head_seen l.head) l.dump l.counts l.runs.items;
  all : (f b : ℕ) → b < counts_in (take l.count-index l.files) f → b < counts_in l.head.counts.items f → b < count_of l.counts f → IsInRuns f b l.runs.items;
}
