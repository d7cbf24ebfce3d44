-- Which blocks stand in a file that is a tree.
use Rattle.std.specs.Prelude.{ℕ, ◌≡◌, ◌<◌, ◌||◌, List, true, is_some}
use Rattle.dms_chain.specs.ListBlocks.{free_in, leaf_in}
use Rattle.dms_tree.specs.TreeBlocks.{inner_in, root_in}

-- a block of a tree's file is its head, a leaf, an inner block or a free one
pub record IsTreeFormed (width b : ℕ) (bytes : List ℕ) : Type 0 where
  pub head : b ≡ 0 → is_some (root_in bytes) ≡ true
  pub other : 0 < b → (is_some (leaf_in width bytes) || (is_some (inner_in width bytes) || is_some (free_in bytes))) ≡ true
