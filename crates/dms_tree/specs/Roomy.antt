-- How many blocks a file has after an entry came whose leaf is cut.
use Rattle.std.proofs.Common.{◌≡◌, ℕ, zero, suc, ◌+◌, ◌*◌, ◌/◌, ◌≤◌, ◌<◌, ◌⊎◌, inl, inr, max, List, [], ◌∷◌, ◌++◌, Some, refl, sym, ap, subst, ◌∙◌, length, length-append, slice_get, arith}
use Rattle.std.specs.declared.option.Option.{Option}
use Rattle.std.proofs.Math.Nat as nat
use Rattle.dms_chain.specs.Linked.{BlockChain, front, numbers, times}
use Rattle.dms_chain.specs.LinkedLaws.{times_append, times_own}
use Rattle.dms_chain.specs.ListBlocks.{free_in}
use Rattle.dms_chain.specs.ListIn.{Leaf, Spare, entries_of}
use Rattle.dms_chain.specs.Seen.{IsListWidth}
use Rattle.dms_tree.specs.declared.raising.PathStep.{PathStep}
use Rattle.dms_tree.specs.declared.tracing.Trail.{Trail}
use Rattle.dms_tree.specs.Deep.{TreeSizes, four_each, tree_sizes}
use Rattle.dms_tree.specs.Finishing.{over_half}
use Rattle.dms_tree.specs.Glue.{one_longer}
use Rattle.dms_tree.specs.Inserts.{none_zero, with_place}
use Rattle.dms_tree.specs.LeafCuts.{AreTaken, took_all}
use Rattle.dms_tree.specs.Levels.{Hangs, Inner, inner_numbers, top_numbers}
use Rattle.dms_tree.specs.Looks.{entries_append}
use Rattle.dms_tree.specs.OpenMoves.{top_is}
use Rattle.dms_tree.specs.OpenRoots.{opens_tree}
use Rattle.dms_tree.specs.OpenTree.{AreLeavesHalf, tree_length, tree_times}
use Rattle.dms_tree.specs.Paths.{IsPath, Step}
use Rattle.dms_tree.specs.Settles.{IsTaken}
use Rattle.dms_tree.specs.TreeAts.{TreeAt}
use Rattle.dms_tree.specs.TreeIn.{IsTree}
use Rattle.dms_tree.specs.Ups.{steps_of}

-- a path has a step for each level
pub path_long : (ss : List Step) (us : List (List Inner)) (place number next below : ℕ) → IsPath ss us place number next below → length ss ≡ length us
path_long [] [] place number next below path = refl
path_long [] (u ∷ us) place number next below path = absurd path
path_long (s ∷ ss) [] place number next below path = absurd path
path_long (s ∷ ss) (u ∷ us) place number next below path = ap suc (path_long ss us path.0 path.1 next below path.3)

steps_long : (ps : List PathStep) → length (steps_of ps) ≡ length ps
steps_long [] = refl
steps_long (p ∷ ps) = ap suc (steps_long ps)

-- blocks at the file's end are taken only where no free one is left

none_left : (look : ℕ → Option (List ℕ)) (fs : List ℕ) (count free next more : ℕ) → free ≡ 0 → AreTaken look count free fs next more → next ≡ 0
none_left look [] count free next more none all = all.0 ∙ none
none_left look (f ∷ fs) count free next more none all = elim all.2 [
  | inl t ↦ none_left look fs all.1 all.0 next more t.2 all.3
  | inr t ↦ absurd (t.0 none)
]

end_or : (look : ℕ → Option (List ℕ)) (fs : List ℕ) (count free next more : ℕ) → AreTaken look count free fs next more → (more ≡ count) ⊎ (next ≡ 0)
end_or look [] count free next more all = inl all.1
end_or look (f ∷ fs) count free next more all = elim all.2 [
  | inl t ↦ inr (none_left look fs all.1 all.0 next more t.2 all.3)
  | inr t ↦ elim (end_or look fs all.1 all.0 next more all.3) [
    | inl e ↦ inl (e ∙ t.3)
    | inr e ↦ inr e
  ]
]

no_spares : (look : ℕ → Option (List ℕ)) (fs : List Spare) → BlockChain free_in look fs 0 → front fs 0 ≡ 0 → length fs ≡ 0
no_spares look [] chain none = refl
no_spares look (f ∷ fs) chain none = absurd (chain.0 none)

-- how many entries there are
module _ (c : List ℕ) (count : ℕ) (look : ℕ → Option (List ℕ)) (root : ℕ) (ahead rest : List Leaf) (number : ℕ) (es : List (List ℕ)) (fs : List Spare) where
  abbrev ls : List Leaf
  ls = ahead ++ (number, es) ∷ rest

  enough : (us : List (List Inner)) → IsListWidth (length c) → (root ≡ 0 → ⊥) → IsTree (length c) count look root us ls fs → 9 ≤ length es → 1 + (length (inner_numbers us) + length ls) + (length us + 2) ≤ 2 + length (entries_of ls)
  enough [] w some tree many =
      let one : length ls ≡ 1 = omega (arith, ap (λ (l : List ℕ). length l) (sym tree.hangs ∙ top_is root some), numbers_long ls) in
      omega (arith, one, entries_append ahead ((number, es) ∷ rest), many, ap (λ (l : List (List ℕ)). length l) (entries_append ahead ((number, es) ∷ rest)), length-append (entries_of ahead) (es ++ entries_of rest), length-append es (entries_of rest))
    where
      numbers_long : (xs : List Leaf) → length (numbers xs) ≡ length xs
      numbers_long [] = refl
      numbers_long (x ∷ xs) = ap suc (numbers_long xs)
  enough (u ∷ us) w some tree many =
      let o = opens_tree (length c) count look root (u ∷ us) ls fs tree (none_zero (length c) count look root (u ∷ us) ls fs tree) in
      let s = tree_sizes (length c) count look root (u ∷ us) ls fs tree some in
      let top : times root (numbers u) ≡ 1 = ap (times root) (tree.hangs.0 ∙ top_is root some) ∙ times_own root in
      let none : times root (numbers ls) ≡ 0 = omega (arith, o.once root, tree_times root (u ∷ us) ls fs, times_append root (numbers u) (inner_numbers us), top) in
      omega (arith, s.inner, s.levels, four_each (length c) root ls w none o.half)

pub at_room : (c : List ℕ) (bs : List (List ℕ)) (root free : ℕ) (t : Trail) (xs : List (List ℕ)) (fresh : List ℕ) (next end : ℕ) → IsListWidth (length c) → TreeAt c bs root free t xs → 9 ≤ length t.leaf.entries.items → length fresh ≤ length t.path.items + 2
    → AreTaken (slice_get bs) (length bs) free fresh next end → end ≤ max (length bs) (2 + length xs)
at_room c bs root free t xs fresh next end w a many few taken =
    let look = slice_get bs in
    let ahead = a.at.spot.ahead in
    let rest = a.at.spot.rest in
    let ls = ahead ++ (t.number, t.leaf.entries.items) ∷ rest in
    let here = subst (λ (l : List Leaf). IsTree (length c) (length bs) look root a.us l a.fs) a.at.spot.is a.tree in
    let o = opens_tree (length c) (length bs) look root a.us ls a.fs here (none_zero (length c) (length bs) look root a.us ls a.fs here) in
    let took = took_all (length c) look root a.us ls [] fresh [] (length bs) (front a.fs 0) next end a.fs o (subst (λ n. AreTaken look (length bs) n fresh next end) a.free_is taken) in
    let long : length t.path.items ≡ length a.us = sym (steps_long t.path.items) ∙ path_long (steps_of t.path.items) a.us 0 root (length ahead) t.number a.at.way in
    let size = enough c (length bs) look root ahead rest t.number t.leaf.entries.items a.fs a.us w a.some here many in
    let entries : length (entries_of ls) ≡ length xs = ap (λ (l : List (List ℕ)). length l) (ap entries_of (sym a.at.spot.is) ∙ a.entries) in
    elim (end_or look fresh (length bs) free next end taken) [
      | inl e ↦ omega (arith, e)
      | inr e ↦ omega (arith, took.opened.count_is, tree_length a.us ls took.spares, no_spares look took.spares took.opened.spare (took.opened.free_is ∙ e), few, long, size, entries)
    ]

-- a leaf that has an entry too many has nine others
pub nine_full : (c : List ℕ) (es : List (List ℕ)) → IsListWidth (length c) → 1017 < length (with_place c es) * length c → 9 ≤ length es
nine_full c es w many =
    let nine : 9 ≤ 1017 / length c = (nat.le-div_iff_mul-le {k = length c} {x = 9} {y = 1017} (omega (arith, w.low))).1 (omega (arith, w.most)) in
    omega (arith, over_half (length c) (length (with_place c es)) (omega (arith, w.low)) many, one_longer c es, nine)
