-- What blocks in memory stand for.
use Rattle.std.specs.Prelude.{ℕ, ◌≡◌, ◌&&◌, nat_lt, nat_le, ◌+◌, []}
use Rattle.dms_block.specs.Held.{Held}
use Rattle.dms_memblocks.specs.declared.memory.MemBlocks.{MemBlocks}
use Rattle.dms_memblocks.specs.Undoing.{held_of, rows}

abbrev pub held_view : MemBlocks → Held
held_view b = held_of b.schema (rows b.files.items) b.log.items b.made b.durable (record { reads = b.reads; spent = b.spent; syncs = b.syncs; outs = b.outs })

-- so many empty files, and no quiet point yet; what is gone back to is empty too
pub record IsNew (files : ℕ) (h : Held) : Type 0 where
  pub owns : (f : ℕ) → h.owns f ≡ (nat_lt 30000 f && nat_le f (30000 + files))
  pub content : (f : ℕ) → h.content f ≡ []
  pub mark : (f : ℕ) → h.mark f ≡ []
  pub next : h.next ≡ 1
  pub points : h.points ≡ []
  pub durable : h.durable ≡ 0
