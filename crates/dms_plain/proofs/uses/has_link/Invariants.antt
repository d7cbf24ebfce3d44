use Rattle.std.proofs.Common.{◌≡◌, drop}
use Rattle.dms_model.specs.Uses.{some_link}
use Rattle.dms_plain.proofs.uses.has_link.Given as goal

abbrev pub invariant-loop-k : goal.invariant-loop-k
invariant-loop-k l = some_link l.counted l.to l.number l.k (drop l.k l.items) l.values ≡ some_link l.counted l.to l.number 0 l.items l.values
