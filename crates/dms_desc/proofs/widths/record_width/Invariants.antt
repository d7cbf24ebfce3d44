use Rattle.std.proofs.Common.{◌≡◌, ◌≤◌, ◌+◌, min, drop}
use Rattle.dms_desc.specs.Widths.{record_width}
use Rattle.dms_desc.proofs.widths.record_width.Given as goal

-- the bytes so far and those of what is left
abbrev pub invariant-loop-item : goal.invariant-loop-item
invariant-loop-item l = (l.width ≤ 4294967295) × (min (l.width + record_width (drop l.item-index l.items)) 4294967295 ≡ min (record_width l.items) 4294967295)
