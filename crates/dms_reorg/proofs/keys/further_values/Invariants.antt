use Rattle.std.proofs.Common.{◌≡◌, take}
use Rattle.dms_reorg.specs.Extended.{first_values}
use Rattle.dms_reorg.proofs.keys.further_values.Given as goal

abbrev pub invariant-loop-item : goal.invariant-loop-item
invariant-loop-item l = l.values ≡ first_values (take l.item-index l.further)
