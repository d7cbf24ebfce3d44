use Rattle.std.proofs.Common.{◌≡◌, drop}
use Rattle.dms_layout.specs.Slots.{are_raw_fields}
use Rattle.dms_layout.proofs.judging.are_raw_fields.Given as goal

abbrev pub invariant-loop-item : goal.invariant-loop-item
invariant-loop-item l = are_raw_fields (drop l.item-index l.items) l.rest ≡ are_raw_fields l.items l.bytes
