-- The blocks of a dump that is copied one after another, and that they are read again.
use Rattle.std.specs.Prelude.{ℕ, ◌-◌, ◌*◌, ◌<◌, ◌≡◌, nat_lt, if◌then◌else◌, List, [], ◌∷◌, ◌++◌, length, Option, Some, None}
use Rattle.dms_site.specs.Files.{range}
use Rattle.dms_history.specs.Events.{block_in}
use Rattle.dms_history.specs.Entries.{counts_in}
use Rattle.dms_history.specs.declared.event.FileCount.{FileCount}
use Rattle.dms_dump.specs.Head.{Head, IsHead, end_of, all_blocks, head_bytes}
use Rattle.dms_dump.specs.Body.{dump_of}
use Rattle.dms_dump.specs.Judged.{dump_read, sealed}

-- the file and the number of block n of these files, counted through them in their order from 0
abbrev pub id_at : List FileCount → ℕ → Option (ℕ × ℕ)
id_at [] n = None
id_at (c ∷ cs) n = if nat_lt n c.blocks then Some (c.file, n) else id_at cs (n - c.blocks)

-- So many blocks stand in these bytes, and each of them has what is asked of the block of its number.
pub record HasBlocks (P : ℕ → ℕ → List ℕ → Type 0) (counts : List FileCount) (n : ℕ) (body : List ℕ) : Type 0 where
  pub long : length body ≡ 1024 * n
  pub each : (i f b : ℕ) → i < n → id_at counts i ≡ Some (f, b) → P f b (range (1024 * i) 1024 body)

-- A file with an open gate, a head and all its blocks is a dump with that head, which has each of them.
pub record BlocksAreRead (P : ℕ → ℕ → List ℕ → Type 0) (h : Head) (file : List ℕ) : Type 0 where
  pub read : dump_read file ≡ sealed h
  pub point : (dump_of file).point ≡ h.point
  pub end : (dump_of file).end ≡ end_of h
  pub counts : (f : ℕ) → length ((dump_of file).blocks f) ≡ counts_in h.counts f
  pub each : (f b : ℕ) → b < counts_in h.counts f → P f b (block_in (dump_of file).blocks f b)

abbrev pub CopiesAreRead : Type 1
CopiesAreRead = (P : ℕ → ℕ → List ℕ → Type 0) (h : Head) (body : List ℕ) → IsHead h → HasBlocks P h.counts (all_blocks h.counts) body → BlocksAreRead P h (1 ∷ (head_bytes h ++ body))
