use Rattle.std.proofs.Common.{◌≡◌, drop, length}
use Rattle.std.specs.Prelude.{◌==◌}
use Rattle.dms_desc.specs.Widths.{record_width}
use Rattle.dms_layout.specs.Slots.{slot_width}
use Rattle.dms_layout.proofs.reading.has_width.Given as goal

abbrev pub invariant-loop-item : goal.invariant-loop-item
invariant-loop-item l = (l.left == record_width (drop l.item-index l.items)) ≡ (length l.bytes == slot_width l.items)
