use Rattle.std.proofs.Common.{◌≡◌, take}
use Rattle.dms_desc.proofs.items.Items.copy.Given as goal

abbrev pub invariant-loop-item : goal.invariant-loop-item
invariant-loop-item l = l.made ≡ take l.item-index l.item-items
