-- Whether the blocks of a file are a tree, by its head.
use Rattle.std.specs.Prelude.{ℕ, ◌≡◌, Bool, List, Some, is_some, slice_get}
use Rattle.dms_chain.specs.Linked.{said_by}
use Rattle.dms_tree.specs.TreeBlocks.{root_in}
use Rattle.dms_tree.specs.TreeIn.{tree_in}

-- the tree under this root and this free chain are all blocks of a file
abbrev pub RootAnswer : ℕ → List (List ℕ) → ℕ → ℕ → Bool → Type 0
RootAnswer width bs root free b = said_by root_in (slice_get bs 0) ≡ Some (root, free) → b ≡ is_some (tree_in width bs)
