use Rattle.std.proofs.Common.{◌≡◌, length, take}
use Rattle.dms_shapes.specs.Marks.{Marked}
use Rattle.dms_shapes.proofs.marks.mark_all.Given as goal

abbrev pub invariant-loop-number : goal.invariant-loop-number
invariant-loop-number l = record {
  marked : Marked l.fn.seen l.seen (take l.number-index l.numbers);
  long : length l.seen ≡ length l.fn.seen;
}
