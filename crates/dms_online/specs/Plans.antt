-- How a dump is planned that is copied while a database runs.
use Rattle.std.specs.Prelude.{ℕ, ◌+◌, ◌*◌, ◌<◌, ◌≤◌, ◌^◌, ◌≡◌, length, Some}
use Rattle.dms_dump.specs.Head.{Head, IsHead, all_blocks, head_bytes}
use Rattle.dms_restore.specs.Counts.{file_counts}
use Rattle.dms_wal.specs.declared.running.Running.{Running}
use Rattle.dms_online.specs.declared.plan.Copying.{Copying}

-- its head, with this end
abbrev pub head_of : Copying → ℕ → Head
head_of c end = record { tag = c.tag; point = c.point; audit = c.audit; counts = c.counts.items; end = Some end }

-- The head can be spelled, the blocks begin behind it and end below 2^40, and no more are copied than it is to have.
pub record IsPlan (c : Copying) : Type 0 where
  pub head : IsHead (head_of c c.point)
  pub front : c.front ≡ 1 + length (head_bytes (head_of c c.point))
  pub total : c.total ≡ all_blocks c.counts.items
  pub room : c.front + 1024 * (c.total + 1) < 2 ^ 40
  pub within : c.done ≤ c.total

-- A plan of a dump of this database as it is at its last point; none of its blocks is copied yet.
pub record IsPlanOf {S : Type 0} (r : Running S) (c : Copying) : Type 0 where
  pub plan : IsPlan c
  pub point : c.point ≡ r.point
  pub counts : c.counts.items ≡ file_counts 30001 r.marks.items
  pub none : c.done ≡ 0
  pub first : c.first_next ≡ r.next
