use Rattle.std.proofs.Common.{◌≡◌, drop}
use Rattle.dms_desc.specs.Lookups.{item_named}
use Rattle.dms_desc.proofs.lookups.item_named.Given as goal

-- it stands among the rest where it stands at all
abbrev pub invariant-loop-item : goal.invariant-loop-item
invariant-loop-item l = item_named l.name l.number (drop l.item-index l.items) ≡ item_named l.name 1 l.items
