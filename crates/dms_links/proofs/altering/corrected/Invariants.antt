use Rattle.std.proofs.Common.{◌≡◌, ◌++◌, drop}
use Rattle.dms_model.specs.Uses.{corrected}
use Rattle.dms_links.proofs.altering.corrected.Given as goal

abbrev pub invariant-loop-i : goal.invariant-loop-i
invariant-loop-i l = l.made ++ corrected l.to l.number l.i l.items (drop l.i l.values) ≡ corrected l.to l.number 0 l.items l.values
