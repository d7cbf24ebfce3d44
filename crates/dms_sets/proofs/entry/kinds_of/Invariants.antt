use Rattle.std.proofs.Common.{◌≡◌, take}
use Rattle.dms_sets.specs.Entries.{kinds_of}
use Rattle.dms_sets.proofs.entry.kinds_of.Given as goal

abbrev pub invariant-loop-item : goal.invariant-loop-item
invariant-loop-item l = l.kinds.items ≡ kinds_of (take l.item-index l.items)
