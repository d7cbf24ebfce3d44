use Rattle.std.proofs.Common.{◌≡◌, ◌-◌, ◌+◌}
use Rattle.dms_desc_bytes.specs.Reading.{list_at, several, group_at}
use Rattle.dms_desc_bytes.proofs.Several.{with_front}
use Rattle.dms_desc_bytes.proofs.parts.read_groups.Given as goal

-- what is read so far, and what is left to read
abbrev pub invariant-loop-more : goal.invariant-loop-more
invariant-loop-more l = with_front l.groups (several (λ k. group_at) (l._more + 1) (l.count - l._more) l.input) ≡ list_at group_at l.fn.input
