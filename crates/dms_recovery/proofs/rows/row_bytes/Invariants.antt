use Rattle.std.proofs.Common.{◌≡◌, ◌++◌, drop}
use Rattle.dms_audrec.specs.Spelling.{pair_bytes, row_file, row_number}
use Rattle.dms_recovery.proofs.rows.row_bytes.Given as goal

-- the bytes so far, and those of the rest
abbrev pub invariant-loop-row : goal.invariant-loop-row
invariant-loop-row l = l.list ++ pair_bytes row_file row_number (drop l.row-index l.rows) ≡ pair_bytes row_file row_number l.rows
