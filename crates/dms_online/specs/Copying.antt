-- What holds of a dump that is copied while a database runs.
use Rattle.std.specs.Prelude.{ℕ, ◌<◌, ◌≤◌, ◌≡◌, List, [], ◌∷◌, ◌++◌, length, Some}
use Rattle.dms_block.specs.Content.{Content, block_in}
use Rattle.dms_block.specs.Held.{BlockPoint, Held}
use Rattle.dms_dump.specs.Copies.{HasBlocks, id_at}
use Rattle.dms_history.specs.declared.event.FileCount.{FileCount}

-- These bytes are block b of file f at one of these points, which isn't before the low one.
pub record IsAtPoint (points : List BlockPoint) (low : ℕ) (f b : ℕ) (bytes : List ℕ) : Type 0 where
  pub before : List BlockPoint
  pub point : BlockPoint
  pub after : List BlockPoint
  pub are : points ≡ before ++ point ∷ after
  pub not_below : low ≤ point.number
  pub same : bytes ≡ block_in point.blocks f b

-- the content has each block of these counts
abbrev pub Covers : List FileCount → Content → Type 0
Covers counts c = (n f k : ℕ) → id_at counts n ≡ Some (f, k) → k < length (c f)

-- The first n blocks of a dump with these counts are copied, each as at one of the points so far and none before the low one; all its blocks are there
-- now, and at the last point; and the next point is none before the low one.
pub record IsCopying (h : Held) (low : ℕ) (counts : List FileCount) (n : ℕ) (body : List ℕ) : Type 0 where
  pub has : HasBlocks (IsAtPoint h.points low) counts n body
  pub there : Covers counts h.content
  pub marked : Covers counts h.mark
  pub order : low ≤ h.next

-- The last point isn't before the low one, and the mark has its blocks.
pub record EndsAtPoint (h : Held) (low : ℕ) : Type 0 where
  pub before : List BlockPoint
  pub point : BlockPoint
  pub are : h.points ≡ before ++ point ∷ []
  pub not_below : low ≤ point.number
  pub blocks : h.mark ≡ point.blocks
