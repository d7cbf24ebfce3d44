use Rattle.std.proofs.Common.{◌≡◌, ◌≤◌, ◌+◌, min, drop}
use Rattle.dms_desc_bytes.specs.Lists.{total}
use Rattle.dms_desc_bytes.specs.Members.{counted_one}
use Rattle.dms_desc_bytes.proofs.members.counted_links.Given as goal

-- the counted links so far and those of what is left
abbrev pub invariant-loop-item : goal.invariant-loop-item
invariant-loop-item l = (l.count ≤ 4294967295) × (min (l.count + total (λ i. counted_one i.kind) (drop l.item-index l.items)) 4294967295 ≡ min (total (λ i. counted_one i.kind) l.items) 4294967295)
