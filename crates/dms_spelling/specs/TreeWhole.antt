-- The blocks of a tree are whole, and so are those of a list in either form.
use Rattle.std.proofs.Common.{◌≡◌, ℕ, zero, suc, ◌+◌, ◌*◌, ◌≤◌, ◌<◌, List, [], ◌∷◌, ◌++◌, Bool, true, false, Some, inl, inr, refl, sym, ap, ◌∙◌, length, length-append, slice_get, arith}
use Rattle.std.proofs.Common.{take, drop}
use Rattle.std.specs.Int.{w16, w32, from_be_bytes, to_be_bytes}
use Rattle.std.specs.List.{list_all}
use Rattle.std.specs.Str.{bytes_eq}
use Rattle.std.specs.declared.option.Option.{Option}
use Rattle.std.proofs.lemmas.Bool.{cases_eq}
use Rattle.std.proofs.lemmas.Option.{slice_get_within}
use Rattle.std.proofs.lemmas.Slice.Eq.{bytes_eq-Decides}
use Rattle.dms_chain.specs.Linked.{numbers, said_by, times}
use Rattle.dms_chain.specs.LinkedLaws.{times_append, times_other}
use Rattle.dms_chain.specs.ListBlocks.{flat, free_in, leaf_in}
use Rattle.dms_chain.specs.ListIn.{Leaf, Spare}
use Rattle.dms_lists.specs.declared.form.ListForm.{ListForm}
use Rattle.dms_lists.specs.declared.form.ListForm.TheVariants.{Tree, List as OneChain}
use Rattle.dms_lists.specs.Forms.{kept_in}
use Rattle.dms_tree.specs.Inserts.{none_zero}
use Rattle.dms_tree.specs.Levels.{Inner, inner_numbers}
use Rattle.dms_tree.specs.TreeBlocks.{inner_bytes, inner_in, number_bytes, root_bytes, root_if, root_in}
use Rattle.dms_tree.specs.TreeIn.{IsTree, SayLevel, SayLevels, says, tree_in, tree_numbers}
use Rattle.dms_tree.specs.TreeLaws.{tree_is}
use Rattle.dms_tree.specs.TreeSpells.{inner_says, numbers_long}
use Rattle.dms_tree.specs.Ups.{inner_fits}
use Rattle.dms_spelling.specs.Spelled.{is_whole}
use Rattle.dms_spelling.specs.Whole.{chain_at, each_stands, filled_whole, four_long, free_whole, leaf_whole, list_whole, two_long, whole_by}

-- ---- what a block spells is whole

root_long : (root free : ℕ) → length (root_bytes root free) ≡ 1024
unfolding root_bytes
root_long root free =
    filled_whole (3 ∷ 1 ∷ (to_be_bytes w32 root ++ to_be_bytes w32 free)) (omega (arith, length-append (to_be_bytes w32 root) (to_be_bytes w32 free), four_long root, four_long free))

root_by : (t : Bool) (b : List ℕ) (root free : ℕ) (x : ℕ × ℕ) → bytes_eq b (root_bytes root free) ≡ t → root_if t root free ≡ Some x → length b ≡ 1024
root_by true b root free x tested is = ap length ((bytes_eq-Decides b (root_bytes root free)).0 tested) ∙ root_long root free
root_by false b root free x tested is = absurd (cc is)

root_whole : (b : List ℕ) (x : ℕ × ℕ) → root_in b ≡ Some x → length b ≡ 1024
unfolding root_in
root_whole b x is = root_by _ b (from_be_bytes w32 (take 4 (drop 2 b))) (from_be_bytes w32 (take 4 (drop 6 b))) x refl is

inner_long : (kids : List ℕ) (seps : List (List ℕ)) → 3 + 4 * length kids + length (flat seps) ≤ 1024 → length (inner_bytes kids seps) ≡ 1024
unfolding inner_bytes
inner_long kids seps fits =
    filled_whole (2 ∷ (to_be_bytes w16 (length seps) ++ (number_bytes kids ++ flat seps)))
    (omega (arith, fits, length-append (to_be_bytes w16 (length seps)) (number_bytes kids ++ flat seps), length-append (number_bytes kids) (flat seps), two_long (length seps), numbers_long kids))

inner_whole : (width : ℕ) (b : List ℕ) (x : List ℕ × List (List ℕ)) → inner_in width b ≡ Some x → length b ≡ 1024
inner_whole width b x is =
    let said = inner_says width b x is in
    ap length said.bytes ∙ inner_long x.0 x.1 (inner_fits width x.0 x.1 said.inner)

-- ---- and so is each block of a tree

level_whole : (width : ℕ) (look : ℕ → Option (List ℕ)) (us : List Inner) (n : ℕ) (b : List ℕ) → SayLevel width look us → 0 < times n (numbers us) → look n ≡ Some b → length b ≡ 1024
level_whole width look [] n b said some at = absurd (omega (arith, some))
level_whole width look (u ∷ us) n b said some at = elim (cases_eq u.0 n) [
  | inl same ↦ inner_whole width b u.1 (sym (ap (says (inner_in width)) (ap look same ∙ at)) ∙ said.0)
  | inr apart ↦ level_whole width look us n b said.1 (omega (arith, some, times_other n u.0 apart, times_append n (u.0 ∷ []) (numbers us))) at
]

levels_whole : (width : ℕ) (look : ℕ → Option (List ℕ)) (us : List (List Inner)) (n : ℕ) (b : List ℕ) → SayLevels width look us → 0 < times n (inner_numbers us) → look n ≡ Some b → length b ≡ 1024
levels_whole width look [] n b said some at = absurd (omega (arith, some))
levels_whole width look (u ∷ us) n b said some at = by (times n (numbers u)) refl (λ more. levels_whole width look us n b said.1 more at)
  where
    by : (t : ℕ) → times n (numbers u) ≡ t → (0 < times n (inner_numbers us) → length b ≡ 1024) → length b ≡ 1024
    by zero none rest = rest (omega (arith, some, none, times_append n (numbers u) (inner_numbers us)))
    by (suc t) there rest = level_whole width look u n b said.0 (omega (arith, there)) at

module _ (width count root : ℕ) (look : ℕ → Option (List ℕ)) (us : List (List Inner)) (ls : List Leaf) (fs : List Spare) (tree : IsTree width count look root us ls fs) where
  abbrev all : List ℕ
  all = tree_numbers us ls fs

  within : (n : ℕ) → 0 < times n all → (1 ≤ n) × (n ≤ length all)
  within zero some = absurd (omega (arith, some, none_zero width count look root us ls fs tree))
  within (suc n) some = (omega arith, omega (arith, tree.low (suc n) some, tree.count_is))

  by_part : (n : ℕ) (b : List ℕ) → look n ≡ Some b → 0 < times n all → (i j : ℕ) → times n (inner_numbers us) ≡ i → times n (numbers ls) ≡ j → length b ≡ 1024
  by_part n b at some (suc i) j there here = levels_whole width look us n b tree.inner (omega (arith, there)) at
  by_part n b at some zero (suc j) there here = chain_at (leaf_in width) look ls 0 n b (leaf_whole width b) tree.chain (omega (arith, here)) at
  by_part n b at some zero zero there here =
      chain_at free_in look fs 0 n b (free_whole b) tree.free (omega (arith, some, there, here, times_append n (inner_numbers us) (numbers ls ++ numbers fs), times_append n (numbers ls) (numbers fs))) at

  tree_block : (n : ℕ) (b : List ℕ) → look n ≡ Some b → n < count → length b ≡ 1024
  tree_block zero b at low = root_whole b _ (sym (ap (said_by root_in) at) ∙ tree.head)
  tree_block (suc n) b at low = by_part (suc n) b at (each_stands all tree.once within (suc n) (omega arith) (omega (arith, low, tree.count_is))) _ _ refl refl

tree_whole : (width : ℕ) (bs xs : List (List ℕ)) → tree_in width bs ≡ Some xs → list_all is_whole bs ≡ true
tree_whole width [] xs is = refl
tree_whole width (x ∷ bs) xs is =
    let t = tree_is width (x ∷ bs) xs (λ e. omega (arith, e)) is in
    whole_by (x ∷ bs) (λ n b at. tree_block width (length (x ∷ bs)) t.root (slice_get (x ∷ bs)) t.inner t.leaves t.spares t.tree n b at (omega (arith, slice_get_within (x ∷ bs) n b at)))

-- each block of a file that keeps a list
pub kept_whole : (form : ListForm) (width : ℕ) (bs xs : List (List ℕ)) → kept_in form width bs ≡ Some xs → list_all is_whole bs ≡ true
kept_whole Tree width bs xs is = tree_whole width bs xs is
kept_whole OneChain width bs xs is = list_whole width bs xs is
