use Rattle.std.proofs.Common.{◌≡◌, ◌+◌, ◌*◌, ◌≤◌, drop}
use Rattle.dms_desc.specs.Widths.{record_width}
use Rattle.dms_layout.specs.Slots.{slot_width}
use Rattle.dms_layout.proofs.writing.slot_width.Given as goal

abbrev pub invariant-loop-item : goal.invariant-loop-item
invariant-loop-item l = record {
  left : l.width + record_width (drop l.item-index l.items) ≡ slot_width l.items;
  small : l.width ≤ 13 + 256 * l.item-index;
}
