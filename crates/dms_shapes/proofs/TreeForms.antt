-- Each block of a file that is a tree is its head, a leaf, an inner block or a free one.
use Rattle.std.proofs.Common.{◌≡◌, ℕ, zero, suc, ◌+◌, ◌<◌, List, [], ◌∷◌, Bool, true, false, cond, eqb, Some, refl, sym, ap, subst, ◌∙◌, length, slice_get, arith}
use Rattle.std.specs.Prelude.{◌||◌, is_some}
use Rattle.std.specs.declared.option.Option.{Option}
use Rattle.std.proofs.lemmas.Bool.Decides.{nat_tests}
use Rattle.dms_chain.specs.Linked.{numbers, said_by, times}
use Rattle.dms_chain.specs.LinkedLaws.{times_append}
use Rattle.dms_chain.specs.ListBlocks.{free_in, leaf_in}
use Rattle.dms_chain.specs.ListIn.{Leaf, Spare}
use Rattle.dms_shapes.specs.Formed.{all_met, number_says, or_left, or_right, said_there, there}
use Rattle.dms_shapes.specs.TreeFormed.{IsTreeFormed}
use Rattle.dms_tree.specs.Inserts.{none_zero}
use Rattle.dms_tree.specs.Levels.{Inner, inner_numbers}
use Rattle.dms_tree.specs.OpenTree.{tree_times}
use Rattle.dms_tree.specs.TreeBlocks.{inner_in, root_in}
use Rattle.dms_tree.specs.TreeIn.{IsTree, SayLevel, SayLevels, says, tree_in, tree_numbers}
use Rattle.dms_tree.specs.TreeLaws.{tree_is}

module _ (width : ℕ) (look : ℕ → Option (List ℕ)) (m : ℕ) where
  level_by : (u : Inner) (us : List Inner) (t : Bool) → eqb u.0 m ≡ t → says (inner_in width) (look u.0) ≡ Some u.1 → 0 < cond {A = ℕ} t 1 0 + times m (numbers us)
      → (0 < times m (numbers us) → is_some (says (inner_in width) (look m)) ≡ true) → is_some (says (inner_in width) (look m)) ≡ true
  level_by u us true is said some rest =
      let e : u.0 ≡ m = grind (arith, nat_tests, is) in
      subst (λ n. is_some (says (inner_in width) (look n)) ≡ true) e (ap is_some said)
  level_by u us false is said some rest = rest (omega (arith, some))

  level_says : (us : List Inner) → SayLevel width look us → 0 < times m (numbers us) → is_some (says (inner_in width) (look m)) ≡ true
  level_says [] said some = absurd (omega (arith, some))
  level_says (u ∷ us) said some = level_by u us (eqb u.0 m) refl said.0 some (λ more. level_says us said.1 more)

  levels_by : (k : ℕ) (u : List Inner) (us : List (List Inner)) → times m (numbers u) ≡ k → SayLevel width look u → 0 < times m (inner_numbers (u ∷ us)) → (0 < times m (inner_numbers us) → is_some (says (inner_in width) (look m)) ≡ true) → is_some (says (inner_in width) (look m)) ≡ true
  levels_by zero u us e said some rest = rest (omega (arith, e, some, times_append m (numbers u) (inner_numbers us)))
  levels_by (suc k) u us e said some rest = level_says u said (omega (arith, e))

  levels_say : (us : List (List Inner)) → SayLevels width look us → 0 < times m (inner_numbers us) → is_some (says (inner_in width) (look m)) ≡ true
  levels_say [] said some = absurd (omega (arith, some))
  levels_say (u ∷ us) said some = levels_by (times m (numbers u)) u us refl said.0 some (λ more. levels_say us said.1 more)

says_there : {A : Type 0} (reads : List ℕ → Option A) (o : Option (List ℕ)) (bytes : List ℕ) → o ≡ Some bytes → is_some (says reads o) ≡ true → is_some (reads bytes) ≡ true
says_there reads o bytes at h = sym (ap (λ x. is_some (says reads x)) at) ∙ h

module _ (width : ℕ) (bs : List (List ℕ)) (root : ℕ) (us : List (List Inner)) (ls : List Leaf) (fs : List Spare) (t : IsTree width (length bs) (slice_get bs) root us ls fs) (b : ℕ) (bytes : List ℕ) (at : slice_get bs b ≡ Some bytes) where
  abbrev one_of : Type 0
  one_of = (is_some (leaf_in width bytes) || (is_some (inner_in width bytes) || is_some (free_in bytes))) ≡ true

  which : (j k : ℕ) → times b (numbers ls) ≡ j → times b (inner_numbers us) ≡ k → 0 < times b (inner_numbers us) + times b (numbers ls) + times b (numbers fs) → one_of
  which (suc j) k e f some =
      or_left (is_some (leaf_in width bytes)) (is_some (inner_in width bytes) || is_some (free_in bytes))
      (said_there (leaf_in width) (slice_get bs b) bytes at (number_says (leaf_in width) (slice_get bs) ls b t.chain (omega (arith, e))))
  which zero (suc k) e f some =
      or_right (is_some (leaf_in width bytes)) (is_some (inner_in width bytes) || is_some (free_in bytes))
      (or_left (is_some (inner_in width bytes)) (is_some (free_in bytes)) (says_there (inner_in width) (slice_get bs b) bytes at (levels_say width (slice_get bs) b us t.inner (omega (arith, f)))))
  which zero zero e f some =
      or_right (is_some (leaf_in width bytes)) (is_some (inner_in width bytes) || is_some (free_in bytes))
      (or_right (is_some (inner_in width bytes)) (is_some (free_in bytes)) (said_there free_in (slice_get bs b) bytes at (number_says free_in (slice_get bs) fs b t.free (omega (arith, e, f, some)))))

  formed_tree : IsTreeFormed width b bytes
  formed_tree = record {
    head = λ e. said_there root_in (slice_get bs b) bytes at (subst (λ n. is_some (said_by root_in (slice_get bs n)) ≡ true) (sym e) (ap is_some t.head));
    other = λ some.
        let among = all_met (length bs) (tree_numbers us ls fs) t.once t.low (none_zero width (length bs) (slice_get bs) root us ls fs t) t.count_is b some (there bs b bytes at) in
        which (times b (numbers ls)) (times b (inner_numbers us)) refl refl (omega (arith, among, tree_times b us ls fs));
  }

pub formed_in_tree : (width : ℕ) (bs xs : List (List ℕ)) → tree_in width bs ≡ Some xs → (b : ℕ) (bytes : List ℕ) → slice_get bs b ≡ Some bytes → IsTreeFormed width b bytes
formed_in_tree width bs xs is b bytes at =
    let s = tree_is width bs xs (λ e. absurd (omega (arith, e, there bs b bytes at))) is in
    formed_tree width bs s.root s.inner s.leaves s.spares s.tree b bytes at
