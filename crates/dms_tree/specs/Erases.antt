-- An entry leaves a file's tree, or doesn't stand there.
use Rattle.std.proofs.Common.{◌≡◌, ℕ, suc, ◌+◌, ◌<◌, IsTrue, List, [], ◌∷◌, ◌++◌, false, cond, Some, refl, sym, ap, subst, ◌∙◌, length, take, drop}
use Rattle.dms_block.specs.declared.blocks.Blocks.{Ghosts}
use Rattle.dms_block.specs.declared.overlay.Overlay.{Overlay}
use Rattle.dms_block.specs.View.{seen_counts}
use Rattle.dms_chain.specs.Leads.{has_at, lead, without_at}
use Rattle.dms_chain.specs.Lists.{AreInByteOrder, has_entry, without}
use Rattle.dms_tree.specs.declared.tracing.Trail.{Trail}
use Rattle.dms_tree.specs.TreeAts.{IfTreeAt, TreeAt}
use Rattle.dms_tree.specs.TreeIn.{tree_in}
use Rattle.dms_tree.specs.TreeLooks.{at_list, at_rises}

module _ {B : Type 0} {g : Ghosts B} where
  -- a block of the file, where a way leads through no tree
  abbrev pub NoTreeAt : Overlay B g → (file : ℕ) (c : List ℕ) (root free : ℕ) → Trail → ℕ → ℕ → Type 0
  NoTreeAt o file c root free t f b = (f ≡ file) × (b < seen_counts o file) × IfTreeAt o file c root free t (λ xs. ⊥)

-- an entry that doesn't stand there
pub without_same : (c : List ℕ) (xs : List (List ℕ)) → AreInByteOrder xs → has_entry c xs ≡ false → without c xs ≡ xs
without_same c xs rises off = without_at c xs rises ∙ ap (λ t. cond t (take (lead c xs) xs ++ drop (suc (lead c xs)) xs) xs) (sym (has_at c xs rises) ∙ off)

pub at_without : (c : List ℕ) (bs xs : List (List ℕ)) (root free : ℕ) (t : Trail) → TreeAt c bs root free t xs → has_entry c xs ≡ false → tree_in (length c) bs ≡ Some (without c xs)
at_without c bs xs root free t a off = at_list c bs xs root free t a ∙ ap Some (sym (without_same c xs (at_rises c bs xs root free t a) off))
