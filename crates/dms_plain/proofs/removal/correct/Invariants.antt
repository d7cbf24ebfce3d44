use Rattle.std.proofs.Common.{◌≡◌, ◌++◌, length, take, drop}
use Rattle.dms_model.specs.Uses.{corrected}
use Rattle.dms_plain.proofs.removal.correct.Given as goal

abbrev pub invariant-loop-k : goal.invariant-loop-k
invariant-loop-k l = record {
  count : length l.values ≡ l.count;
  rest : take l.k l.values ++ corrected l.to l.number l.k l.items (drop l.k l.values) ≡ corrected l.to l.number 0 l.items l.fn.values;
}
