use Rattle.std.proofs.Common.{◌≡◌, false, drop}
use Rattle.dms_model.specs.Uses.{some_link}
use Rattle.dms_links.proofs.walking.links.Given as goal

abbrev pub invariant-loop-k : goal.invariant-loop-k
invariant-loop-k l = some_link false l.to l.number l.k (drop l.k l.items) l.values ≡ some_link false l.to l.number 0 l.items l.values
