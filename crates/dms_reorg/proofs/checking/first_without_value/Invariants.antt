use Rattle.std.proofs.Common.{◌≡◌, drop}
use Rattle.dms_desc.specs.Sorted.{first}
use Rattle.dms_reorg.specs.Refusals.{lacks_value}
use Rattle.dms_reorg.proofs.checking.first_without_value.Given as goal

-- the first of the rest is the first of all
abbrev pub invariant-loop-item : goal.invariant-loop-item
invariant-loop-item l = first lacks_value (drop l.item-index l.further) ≡ first lacks_value l.further
