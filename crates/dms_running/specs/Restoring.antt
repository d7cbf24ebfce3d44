-- What a restore by the audit writes, and what it keeps.
use Rattle.std.specs.Prelude.{ℕ, ◌+◌, ◌*◌, ◌<◌, ◌≤◌, ◌^◌, ◌≡◌, List, [], ◌∷◌, length, Some, None}
use Rattle.dms_site.specs.Files.{Files, Left, stored_of}
use Rattle.dms_history.specs.Events.{BlockBytes, Event}
use Rattle.dms_history.specs.Pick.{count_at}
use Rattle.dms_history.specs.Told.{told_block}
use Rattle.dms_history.specs.declared.event.FileCount.{FileCount}

-- The audit tells nothing of the block, which is there at the point: a restore leaves it as it is stored.
abbrev pub IsKept : List Event → ℕ → ℕ → ℕ → Type 0
IsKept live m f b = (b < count_at live m f) × (told_block live m f b ≡ None)

-- Structure blocks were written: each block that is kept and stood whole stands as it did, and no file got shorter.
pub record Rewritten (keeps : ℕ → ℕ → Type 0) (old new : Files) : Type 0 where
  pub others : (g : ℕ) → g ≤ 30000 → new g ≡ old g
  pub longer : (f : ℕ) → length (old f) ≤ length (new f)
  pub kept : (f b : ℕ) → keeps f b → 1024 * b + 1024 ≤ length (old f) → stored_of new f b ≡ stored_of old f b

-- the same of what a stop leaves, with nothing printed
pub record Rewrites (keeps : ℕ → ℕ → Type 0) (old new : Left) : Type 0 where
  pub files : Rewritten keeps old.files new.files
  pub said : new.said ≡ old.said

-- block b of the file stands as the audit tells it, where it tells of it
abbrev pub StandsAsTold : List Event → ℕ → Files → ℕ → ℕ → Type 0
StandsAsTold live m files f b = (x : BlockBytes) → told_block live m f b ≡ Some x → length x ≡ 1024 → stored_of files f b ≡ x

-- so do the first k blocks of the file
abbrev pub RestoredTo : List Event → ℕ → Files → ℕ → ℕ → Type 0
RestoredTo live m files f k = (b : ℕ) → b < k → StandsAsTold live m files f b

-- counts of structure files, rising by the file's number, of at most 2,097,152 blocks
abbrev pub Rising : ℕ → List FileCount → Type 0
Rising low [] = Unit {0}
Rising low (c ∷ cs) = (low < c.file) × (c.blocks ≤ 2 ^ 21) × Rising c.file cs
