use Rattle.std.proofs.Common.{◌≡◌, ◌≤◌, ◌*◌, ◌/◌, ◌-◌, length}
use Rattle.dms_audrec.specs.Reading.{counts_at}
use Rattle.dms_audrec.specs.Spelling.{counts_rise}
use Rattle.dms_opening.proofs.Counted.{CountsTaken}
use Rattle.dms_opening.proofs.point_counts.take_counts.Given as goal

abbrev pub invariant-loop-pair : goal.invariant-loop-pair
invariant-loop-pair l = record {
  long : 8 * (length l.list / 8 - l._pair) ≤ length l.rest;
  rises : counts_rise l.low (counts_at (length l.list / 8 - l._pair) l.rest) ≡ counts_rise 30001 (counts_at (length l.list / 8) l.list);
  taken : CountsTaken l.list l.rest (length l.list / 8) (length l.list / 8 - l._pair) l.low l.counts;
}
