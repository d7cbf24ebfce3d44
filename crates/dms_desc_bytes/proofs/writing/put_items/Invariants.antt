use Rattle.std.proofs.Common.{◌≡◌, ◌++◌, flat_map, take}
use Rattle.dms_desc_bytes.specs.Spelling.{item_bytes}
use Rattle.dms_desc_bytes.proofs.writing.put_items.Given as goal

abbrev pub invariant-loop-item : goal.invariant-loop-item
invariant-loop-item l = l.out ≡ l.initial.out ++ flat_map item_bytes (take l.item-index l.items)
