use Rattle.std.proofs.Common.{◌≡◌, ◌≤◌, ◌+◌, min, drop}
use Rattle.dms_desc_bytes.specs.Lists.{total}
use Rattle.dms_desc_bytes.specs.WellFormed.{part_width}
use Rattle.dms_desc_bytes.proofs.sets.key_width.Given as goal

-- the bytes so far and those of what is left
abbrev pub invariant-loop-part : goal.invariant-loop-part
invariant-loop-part l = (l.width ≤ 4294967295) × (min (l.width + total (part_width l.items) (drop l.part-index l.parts)) 4294967295 ≡ min (total (part_width l.items) l.parts) 4294967295)
