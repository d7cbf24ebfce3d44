use Rattle.std.proofs.Common.{◌≡◌, ◌≤◌, ◌+◌, min, drop, map}
use Rattle.dms_desc.specs.Shape.{shape_of}
use Rattle.dms_desc_bytes.specs.Lists.{total}
use Rattle.dms_desc_bytes.specs.WellFormed.{counted_in}
use Rattle.dms_desc_bytes.proofs.checks.all_counted_links.Given as goal

-- what is left gives what the whole gives
abbrev pub invariant-loop-s : goal.invariant-loop-s
invariant-loop-s l = (l.count ≤ 4294967295) × (min (l.count + total counted_in (map shape_of (drop l.s-index l.structures))) 4294967295 ≡ min (total counted_in (map shape_of l.structures)) 4294967295)
