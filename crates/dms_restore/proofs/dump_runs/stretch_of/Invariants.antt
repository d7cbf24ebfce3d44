use Rattle.std.proofs.Common.{◌≡◌, ◌≤◌, ◌+◌, ◌*◌, drop}
use Rattle.dms_history.specs.Entries.{counts_in}
use Rattle.dms_dump.specs.Body.{blocks_before}
use Rattle.dms_restore.proofs.dump_runs.stretch_of.Given as goal

abbrev pub invariant-loop-count : goal.invariant-loop-count
invariant-loop-count l = record {
  before : l.before + blocks_before l.file (drop l.count-index l.counts) ≡ blocks_before l.file l.counts;
  blocks : counts_in (drop l.count-index l.counts) l.file ≡ counts_in l.counts l.file;
  small : l.before ≤ 4294967296 * l.count-index;
}
