-- Which blocks may stand in a list's file, each for itself.
use Rattle.std.specs.Prelude.{ℕ, List, Bool, ◌==◌, ◌||◌, is_some, if◌then◌else◌}
use Rattle.dms_chain.specs.ListBlocks.{free_in, head_in, leaf_in}
use Rattle.dms_lists.specs.declared.form.ListForm.{ListForm}
use Rattle.dms_lists.specs.declared.form.ListForm.TheVariants.{Tree, List as OneChain}
use Rattle.dms_tree.specs.TreeBlocks.{inner_in, root_in}

-- block 0 is a head, another one has entries or is free
abbrev pub is_list_block : ℕ → ℕ → List ℕ → Bool
is_list_block width n block = if n == 0 then is_some (head_in block) else (is_some (leaf_in width block) || is_some (free_in block))

-- block 0 is a head, another one is a leaf, an inner block or free
abbrev pub is_tree_block : ℕ → ℕ → List ℕ → Bool
is_tree_block width n block = if n == 0 then is_some (root_in block) else (is_some (leaf_in width block) || (is_some (inner_in width block) || is_some (free_in block)))

-- a block of a list that is kept in a form
abbrev pub is_kept_block : ListForm → ℕ → ℕ → List ℕ → Bool
is_kept_block Tree width n block = is_tree_block width n block
is_kept_block OneChain width n block = is_list_block width n block
