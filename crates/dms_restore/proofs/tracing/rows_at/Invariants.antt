use Rattle.std.proofs.Common.{◌≡◌, ◌+◌, ◌*◌, ◌-◌, ◌/◌, ◌++◌, length}
use Rattle.dms_audrec.specs.Reading.{rows_at}
use Rattle.dms_restore.proofs.tracing.rows_at.Given as goal

abbrev pub invariant-loop-pair : goal.invariant-loop-pair
invariant-loop-pair l = record {
  left : length l.rest + 8 * l._pair ≡ length l.list;
  done : l.rows.items ++ rows_at (length l.list / 8 - l._pair) l.rest ≡ rows_at (length l.list / 8) l.list;
}
