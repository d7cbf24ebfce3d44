-- How many levels and how many blocks a tree has.
use Rattle.std.proofs.Common.{◌≡◌, ℕ, zero, suc, ◌+◌, ◌*◌, ◌/◌, ◌^◌, ◌≤◌, ◌<◌, ◌⊎◌, inl, inr, List, [], ◌∷◌, ◌++◌, refl, sym, ap, ◌∙◌, length, length-append, arith}
use Rattle.std.specs.declared.option.Option.{Option}
use Rattle.std.proofs.Math.Nat as nat
use Rattle.std.proofs.lemmas.Bool.{cases_lt}
use Rattle.dms_chain.specs.Linked.{numbers, times}
use Rattle.dms_chain.specs.LinkedLaws.{numbers_length, times_append, times_own}
use Rattle.dms_chain.specs.ListIn.{Leaf, Spare, entries_of}
use Rattle.dms_chain.specs.Seen.{IsListWidth}
use Rattle.dms_tree.specs.Depth.{kids_twice, levels_deep}
use Rattle.dms_tree.specs.Fives.{fives, levels_five, more_times}
use Rattle.dms_tree.specs.Inserts.{none_zero}
use Rattle.dms_tree.specs.Levels.{Hangs, Inner, inner_numbers, kids_of, top_numbers}
use Rattle.dms_tree.specs.OpenMoves.{top_is}
use Rattle.dms_tree.specs.OpenRoots.{opens_tree}
use Rattle.dms_tree.specs.OpenTree.{AreLeavesHalf, Placed, all_inner, numbers_of_all, tree_length, tree_times}
use Rattle.dms_tree.specs.Steps.{HasMore, each_second}
use Rattle.dms_tree.specs.TreeBlocks.{leaf_half}
use Rattle.dms_tree.specs.TreeIn.{IsTree, SayLevels}
use Rattle.dms_tree.specs.TreeLaws.{levels_few}

power_more : (n : ℕ) → 5 ^ suc n ≡ 5 * 5 ^ n
power_more n = grind arith

power_some : (n : ℕ) → 1 ≤ 5 ^ n
power_some zero = omega arith
power_some (suc n) = omega (arith, power_some n, power_more n)

power_up : (a b : ℕ) → a ≤ b → 5 ^ a ≤ 5 ^ b
power_up zero b le = power_some b
power_up (suc a) zero le = absurd (omega (arith, le))
power_up (suc a) (suc b) le = omega (arith, power_up a b (omega (arith, le)), power_more a, power_more b)

under_nine : (n : ℕ) → 2 * 5 ^ n < 1048576 → n < 9
under_nine n few = elim (cases_lt n 9) [
  | inl less ↦ less
  | inr past ↦ absurd (let nine : 5 ^ 9 ≡ 1953125 = refl in omega (arith, few, power_up 9 n past, nine))
]

module _ (width count : ℕ) (look : ℕ → Option (List ℕ)) (root : ℕ) (ls : List Leaf) (fs : List Spare) where
  -- each inner block but the root has five children, and the root two: so a file of 2 ^ 20 blocks has few levels
  pub nine_levels : (us : List (List Inner)) → width ≤ 104 → count ≤ 1048576 → IsTree width count look root us ls fs → length us ≤ 9
  nine_levels [] low room tree = omega arith
  nine_levels (u ∷ us) low room tree =
      let top : root ≡ 0 → ⊥ = λ e. absurd (omega (arith, tree.some (omega arith), ap (λ n. length (top_numbers n)) e)) in
      let one : numbers u ≡ root ∷ [] = tree.hangs.0 ∙ top_is root top in
      let size : length u ≡ 1 = omega (arith, numbers_length u, ap (λ (l : List ℕ). length l) one) in
      let o = opens_tree width count look root (u ∷ us) ls fs tree (none_zero width count look root (u ∷ us) ls fs tree) in
      let none : times root (numbers (all_inner us)) ≡ 0 = omega (arith, o.once root, tree_times root (u ∷ us) ls fs, times_append root (numbers u) (inner_numbers us), ap (times root) one, times_own root, ap (times root) (numbers_of_all us)) in
      let five = levels_five (kids_of u) us (numbers ls) tree.hangs.1 (fives width look root low us none (each_second HasMore u (all_inner us) o.more) (each_second (Placed width look root []) u (all_inner us) o.placed)) in
      let two : 2 ≤ length (kids_of u) = omega (arith, kids_twice width look u tree.inner.0, size) in
      let less = under_nine (length us) (omega (arith, five, more_times 2 (length (kids_of u)) (5 ^ length us) two, numbers_length ls, tree_length (u ∷ us) ls fs, tree.count_is, room)) in
      omega (arith, less)

-- each level has at most half as many blocks as the one below
halves_up : (width : ℕ) (look : ℕ → Option (List ℕ)) (ns : List ℕ) (us : List (List Inner)) (leaves : List ℕ) → Hangs ns us leaves → SayLevels width look us → length ns + length (inner_numbers us) ≤ length leaves
halves_up width look ns [] leaves hangs said = omega (arith, ap (λ (l : List ℕ). length l) hangs)
halves_up width look ns (u ∷ us) leaves hangs said =
    omega (arith, halves_up width look (kids_of u) us leaves hangs.1 said.1, kids_twice width look u said.0, length-append (numbers u) (inner_numbers us), numbers_length u, ap (λ (l : List ℕ). length l) hangs.0)

pub record TreeSizes (us : List (List Inner)) (ls : List Leaf) (fs : List Spare) (count : ℕ) : Type 0 where
  pub all : 1 + (length (inner_numbers us) + (length ls + length fs)) ≡ count
  pub inner : 1 + length (inner_numbers us) ≤ length ls
  pub levels : length us ≤ length (inner_numbers us)

pub tree_sizes : (width count : ℕ) (look : ℕ → Option (List ℕ)) (root : ℕ) (us : List (List Inner)) (ls : List Leaf) (fs : List Spare) → IsTree width count look root us ls fs → (root ≡ 0 → ⊥) → TreeSizes us ls fs count
tree_sizes width count look root us ls fs tree some = record {
  all = omega (arith, tree.count_is, tree_length us ls fs);
  inner = omega (arith, halves_up width look (top_numbers root) us (numbers ls) tree.hangs tree.inner, ap (λ (l : List ℕ). length l) (top_is root some), numbers_length ls);
  levels = levels_few width look (top_numbers root) us (numbers ls) tree.some tree.hangs tree.inner;
}

-- leaves that aren't the root have four entries
four_in : (width : ℕ) → IsListWidth width → 4 ≤ leaf_half width
four_in width w =
    let nine : 9 ≤ 1017 / width = (nat.le-div_iff_mul-le {k = width} {x = 9} {y = 1017} (omega (arith, w.low))).1 (omega (arith, w.most)) in
    omega (arith, nine)

pub four_each : (width root : ℕ) (ls : List Leaf) → IsListWidth width → times root (numbers ls) ≡ 0 → AreLeavesHalf width root ls → 4 * length ls ≤ length (entries_of ls)
four_each width root [] w none half = omega arith
four_each width root (l ∷ ls) w none half =
    omega (arith, length-append l.1 (entries_of ls), four_each width root ls w (omega (arith, none)) half.1, here half.0)
  where
    here : (l.0 ≡ root) ⊎ (leaf_half width ≤ length l.1) → 4 ≤ length l.1
    here (inl e) = absurd (omega (arith, none, times_own root, ap (λ k. times root (k ∷ [])) e))
    here (inr h) = omega (arith, h, four_in width w)
