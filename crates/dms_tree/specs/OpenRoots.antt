-- A tree is opened and closed; its root is written, a new one comes over it, or it falls away.
use Rattle.std.proofs.Common.{◌≡◌, ℕ, zero, suc, ◌+◌, ◌≤◌, ◌<◌, ◌⊎◌, inl, inr, List, [], ◌∷◌, ◌++◌, Bool, true, false, cond, eqb, leb, Some, None, refl, sym, ap, subst, ◌∙◌, length, length-append, append_assoc, append-nil, arith}
use Rattle.std.specs.Prelude.{◌&&◌, ◌||◌}
use Rattle.std.specs.declared.option.Option.{Option}
use Rattle.std.proofs.lemmas.Bool.Decides.{nat_tests}
use Rattle.std.proofs.lemmas.Bool.{and_parts, and_from}
use Rattle.dms_chain.specs.Linked.{BlockChain, front, numbers, put, said_by, times}
use Rattle.dms_chain.specs.LinkedLaws.{chain_still, numbers_append, numbers_times, times_append, times_own}
use Rattle.dms_chain.specs.ListBlocks.{free_in, leaf_in}
use Rattle.dms_chain.specs.ListIn.{Leaf, Spare}
use Rattle.dms_chain.specs.Lists.{AreInByteOrder}
use Rattle.dms_tree.specs.Levels.{Hangs, Inner, inner_numbers, kids_of, top_numbers, weave}
use Rattle.dms_tree.specs.OpenTree.{AreLeavesHalf, IsOpenTree, Placed, all_inner, numbers_of_all, placed_still, put_here, put_other}
use Rattle.dms_tree.specs.Steps.{EachOf, HasMore, each_both, each_first, each_second}
use Rattle.dms_tree.specs.TreeBlocks.{inner_half, inner_in, leaf_half, root_in}
use Rattle.dms_tree.specs.TreeIn.{IsTree, SayLevel, SayLevels, all_half, half_leaves, half_level, is_half, says, tree_numbers}
use Rattle.dms_tree.specs.TreeSpells.{inner_says}

-- tests and what they say

either_is : (root least n size : ℕ) → is_half root least n size ≡ true → (n ≡ root) ⊎ (least ≤ size)
either_is root least n size h = by_cases (eqb n root) (leb least size) refl refl h
  where
    by_cases : (s t : Bool) → eqb n root ≡ s → leb least size ≡ t → (s || t) ≡ true → (n ≡ root) ⊎ (least ≤ size)
    by_cases true t one two h = inl (let e : n ≡ root = grind (arith, nat_tests, one) in e)
    by_cases false true one two h = inr (let e : least ≤ size = grind (arith, nat_tests, two) in e)
    by_cases false false one two h = absurd (cc h)

is_either : (root least n size : ℕ) → (n ≡ root) ⊎ (least ≤ size) → is_half root least n size ≡ true
is_either root least n size (inl is) = ap (λ t. t || leb least size) (let e : eqb n root ≡ true = grind (arith, nat_tests, is) in e)
is_either root least n size (inr le) = or_true (eqb n root) (leb least size) (let e : leb least size ≡ true = grind (arith, nat_tests, le) in e)
  where
    or_true : (a b : Bool) → b ≡ true → (a || b) ≡ true
    or_true true b h = refl
    or_true false b h = h

half_is : (w root : ℕ) (ls : List Leaf) → half_leaves w root ls ≡ true → AreLeavesHalf w root ls
half_is w root [] h = tt
half_is w root (l ∷ ls) h =
    let parts = and_parts (is_half root (leaf_half w) l.0 (length l.1)) (half_leaves w root ls) h in
    (either_is root (leaf_half w) l.0 (length l.1) parts.0, half_is w root ls parts.1)

is_half_leaves : (w root : ℕ) (ls : List Leaf) → AreLeavesHalf w root ls → half_leaves w root ls ≡ true
is_half_leaves w root [] h = refl
is_half_leaves w root (l ∷ ls) h = and_from (is_half root (leaf_half w) l.0 (length l.1)) (half_leaves w root ls) (is_either root (leaf_half w) l.0 (length l.1) h.0) (is_half_leaves w root ls h.1)

module _ (width : ℕ) (look : ℕ → Option (List ℕ)) (root : ℕ) where
  level_placed : (us : List Inner) → SayLevel width look us → half_level width root us ≡ true → EachOf (Placed width look root []) us
  level_placed [] said h = tt
  level_placed (u ∷ us) said h =
      let parts = and_parts (is_half root (inner_half width) u.0 (length u.1.1)) (half_level width root us) h in
      (inr (said.0, either_is root (inner_half width) u.0 (length u.1.1) parts.0), level_placed us said.1 parts.1)

  levels_placed : (us : List (List Inner)) (ls : List Leaf) → SayLevels width look us → all_half width root us ls ≡ true → EachOf (Placed width look root []) (all_inner us) × AreLeavesHalf width root ls
  levels_placed [] ls said h = (tt, half_is width root ls h)
  levels_placed (u ∷ us) ls said h =
      let parts = and_parts (half_level width root u) (all_half width root us ls) h in
      let rest = levels_placed us ls said.1 parts.1 in
      (each_both (Placed width look root []) u (all_inner us) (level_placed u said.0 parts.0) rest.0, rest.1)

  level_more : (us : List Inner) → SayLevel width look us → EachOf HasMore us
  level_more [] said = tt
  level_more (u ∷ us) said = (more (look u.0) u.1 said.0, level_more us said.1)
    where
      more : (o : Option (List ℕ)) (x : List ℕ × List (List ℕ)) → says (inner_in width) o ≡ Some x → length x.0 ≡ suc (length x.1)
      more None x is = absurd (cc is)
      more (Some b) x is = (inner_says width b x is).inner.more

  levels_more : (us : List (List Inner)) → SayLevels width look us → EachOf HasMore (all_inner us)
  levels_more [] said = tt
  levels_more (u ∷ us) said = each_both HasMore u (all_inner us) (level_more u said.0) (levels_more us said.1)

  -- where no block is a hole, each says what it is
  not_zero : (ns : List ℕ) (n : ℕ) (rest : List ℕ) → ns ≡ n ∷ rest → times 0 ns ≡ 0 → n ≡ 0 → ⊥
  not_zero ns n rest is none e = absurd (omega (arith, none, ap (times 0) is, ap (λ k. times 0 (k ∷ [])) e, times_own 0))

  says_level : (us : List Inner) → times 0 (numbers us) ≡ 0 → EachOf (Placed width look root []) us → SayLevel width look us × (half_level width root us ≡ true)
  says_level [] none placed = (tt, refl)
  says_level (u ∷ us) none placed =
      let rest = says_level us (omega (arith, none)) placed.1 in
      one u us placed.0 rest none
    where
      one : (u : Inner) (us : List Inner) → Placed width look root [] u → SayLevel width look us × (half_level width root us ≡ true) → times 0 (numbers (u ∷ us)) ≡ 0 → SayLevel width look (u ∷ us) × (half_level width root (u ∷ us) ≡ true)
      one u us (inl is) rest none = absurd (omega (arith, is))
      one u us (inr h) rest none = ((h.0, rest.0), and_from (is_half root (inner_half width) u.0 (length u.1.1)) (half_level width root us) (is_either root (inner_half width) u.0 (length u.1.1) h.1) rest.1)

  pub says_levels : (us : List (List Inner)) (ls : List Leaf) → times 0 (numbers (all_inner us)) ≡ 0 → EachOf (Placed width look root []) (all_inner us) → AreLeavesHalf width root ls → SayLevels width look us × (all_half width root us ls ≡ true)
  says_levels [] ls none placed half = (tt, is_half_leaves width root ls half)
  says_levels (u ∷ us) ls none placed half =
      let apart = numbers_times 0 u (all_inner us) in
      let here = says_level u (omega (arith, none, apart)) (each_first (Placed width look root []) u (all_inner us) placed) in
      let rest = says_levels us ls (omega (arith, none, apart)) (each_second (Placed width look root []) u (all_inner us) placed) half in
      ((here.0, rest.0), and_from (half_level width root u) (all_half width root us ls) here.1 rest.1)

pub opens_tree : (width count : ℕ) (look : ℕ → Option (List ℕ)) (root : ℕ) (us : List (List Inner)) (ls : List Leaf) (fs : List Spare) → IsTree width count look root us ls fs → times 0 (tree_numbers us ls fs) ≡ 0 → IsOpenTree width count look root (front fs 0) us ls fs [] []
opens_tree width count look root us ls fs tree none =
    let placed = levels_placed width look root us ls tree.inner tree.half in
    record {
      free_is = refl;
      more = levels_more width look root us tree.inner;
      placed = placed.0;
      chain = tree.chain;
      spare = tree.free;
      half = placed.1;
      hangs = tree.hangs;
      rises = tree.rises;
      count_is = omega (arith, tree.count_is);
      once = λ n. omega (arith, tree.once n);
      low = λ n some. tree.low n (omega (arith, some));
      zero = omega (arith, none);
    }

pub closes_tree : (width count : ℕ) (look : ℕ → Option (List ℕ)) (root free : ℕ) (us : List (List Inner)) (ls : List Leaf) (fs : List Spare) → IsOpenTree width count look root free us ls fs [] [] → (0 < length us → 0 < length (top_numbers root)) → said_by root_in (look 0) ≡ Some (root, free) → IsTree width count look root us ls fs
closes_tree width count look root free us ls fs o some head =
    let none : times 0 (numbers (all_inner us)) ≡ 0 = omega (arith, o.zero, times_append 0 (inner_numbers us) (numbers ls ++ numbers fs), ap (times 0) (numbers_of_all us)) in
    let said = says_levels width look root us ls none o.placed o.half in
    record {
      head = head ∙ (λ i. Some (root, sym o.free_is i));
      inner = said.0;
      chain = o.chain;
      free = o.spare;
      hangs = o.hangs;
      some = some;
      rises = o.rises;
      half = said.1;
      count_is = omega (arith, o.count_is);
      once = λ n. omega (arith, o.once n);
      low = λ n more. o.low n (omega (arith, more));
    }
