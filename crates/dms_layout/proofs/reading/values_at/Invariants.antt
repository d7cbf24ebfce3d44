use Rattle.std.proofs.Common.{◌≡◌, ◌++◌, drop}
use Rattle.dms_layout.specs.Slots.{values_at}
use Rattle.dms_layout.proofs.reading.values_at.Given as goal

abbrev pub invariant-loop-item : goal.invariant-loop-item
invariant-loop-item l = l.values ++ values_at (drop l.item-index l.items) l.rest ≡ values_at l.items l.bytes
