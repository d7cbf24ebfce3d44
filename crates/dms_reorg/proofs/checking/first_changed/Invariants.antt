use Rattle.std.proofs.Common.{◌+◌}
use Rattle.dms_desc.specs.Shape.{as_described}
use Rattle.dms_reorg.specs.Refusals.{EachBelow, Stands}
use Rattle.dms_reorg.proofs.checking.first_changed.Given as goal

abbrev pub invariant-loop-place : goal.invariant-loop-place
invariant-loop-place l = EachBelow (l.place + 1) (as_described l.old) (Stands (as_described l.new))
