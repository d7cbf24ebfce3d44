-- A dump on its way.
use Rattle.std.specs.Prelude.{ℕ, ◌+◌, ◌≡◌, List, ◌∷◌, ◌++◌, length, Some}
use Rattle.dms_block.specs.Content.{block_in}
use Rattle.dms_block.specs.Held.{Held}
use Rattle.dms_dump.specs.Copies.{HasBlocks, id_at}
use Rattle.dms_dump.specs.Head.{Head, all_blocks, head_bytes}
use Rattle.dms_history.specs.declared.event.FileCount.{FileCount}
use Rattle.dms_online.specs.Copying.{IsAtPoint, IsCopying}

-- the blocks of now are those of a point that isn't before the low one
abbrev pub IsQuiet : Held → ℕ → Type 0
IsQuiet h low = (f k : ℕ) → IsAtPoint h.points low f k (block_in h.content f k)

-- The file of the dump is its gate, which is shut, this head and the first n blocks, behind which the next one is written.
pub record GoesOn (h : Held) (file : List ℕ) (front low : ℕ) (counts : List FileCount) (n : ℕ) (head : List ℕ) : Type 0 where
  pub body : List ℕ
  pub is : file ≡ 0 ∷ (head ++ body)
  pub place : front ≡ 1 + length head
  pub copying : IsCopying h low counts n body

-- there is a block of this number
pub record IsNamed (counts : List FileCount) (n : ℕ) : Type 0 where
  pub file : ℕ
  pub block : ℕ
  pub is : id_at counts n ≡ Some (file, block)

-- what a dump's file is behind some copies, as it is said of the first n blocks before them
pub record Went (a b : Held) (old new : List ℕ) (front : ℕ) (counts : List FileCount) (n i low : ℕ) (head : List ℕ) : Type 0 where
  pub quiet : IsQuiet b low
  pub goes : GoesOn a old front low counts n head → GoesOn b new front low counts i head

-- The file has all of a dump with this head but that its gate is shut, and each of its blocks has what is asked of it.
pub record IsAllBut (P : ℕ → ℕ → List ℕ → Type 0) (h : Head) (file : List ℕ) : Type 0 where
  pub body : List ℕ
  pub is : file ≡ 0 ∷ (head_bytes h ++ body)
  pub has : HasBlocks P h.counts (all_blocks h.counts) body
