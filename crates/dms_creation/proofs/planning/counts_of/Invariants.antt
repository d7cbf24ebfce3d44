use Rattle.std.proofs.Common.{◌≡◌}
use Rattle.dms_audrec.specs.Spelling.{pair_bytes, count_file, count_blocks}
use Rattle.dms_creation.specs.FirstEntries.{zero_counts}
use Rattle.dms_creation.proofs.planning.counts_of.Given as goal

abbrev pub invariant-loop-number : goal.invariant-loop-number
invariant-loop-number l = l.counts ≡ pair_bytes count_file count_blocks (zero_counts l.number 1)
