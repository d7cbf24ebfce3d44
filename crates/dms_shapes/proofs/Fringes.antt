-- Leaves that stand at the numbers of a level, and those that hang there.
use Rattle.std.proofs.Common.{◌≡◌, ℕ, zero, suc, ◌+◌, ◌<◌, ◌≤◌, List, [], ◌∷◌, Bool, true, false, eqb, get_or, Some, None, refl, sym, ap, ◌∙◌, length, drop, slice_get, arith}
use Rattle.std.specs.Prelude.{◌&&◌}
use Rattle.std.specs.declared.option.Option.{Option}
use Rattle.std.proofs.lemmas.Bool.Decides.{nat_tests}
use Rattle.std.proofs.lemmas.Bool.{and_parts, true≢false}
use Rattle.std.proofs.lemmas.List.{drop_all}
use Rattle.dms_chain.specs.Linked.{BlockChain, front, numbers, said_by, times}
use Rattle.dms_chain.specs.LinkedLaws.{times_apart}
use Rattle.dms_chain.specs.ListBlocks.{leaf_in}
use Rattle.dms_chain.specs.ListIn.{Leaf}
use Rattle.dms_shapes.specs.Leafage.{are_leaves, bar_before, fits_leaf, is_ahead, is_behind, is_leaf, is_leaf_at}
use Rattle.dms_shapes.proofs.LevelSteps.{opened_at, plus_one}
use Rattle.dms_shapes.proofs.Weaving.{parts}
use Rattle.dms_tree.specs.TreeBlocks.{leaf_half}
use Rattle.dms_tree.specs.TreeIn.{first_number, half_leaves, is_half}

-- ---- one place further

first_drop : (ns : List ℕ) (k : ℕ) → first_number (drop k ns) ≡ get_or ns k 0
first_drop [] zero = refl
first_drop [] (suc k) = refl
first_drop (n ∷ ns) zero = refl
first_drop (n ∷ ns) (suc k) = first_drop ns k

get_drop : (fs : List (List ℕ)) (k : ℕ) → slice_get (drop k fs) 0 ≡ slice_get fs k
get_drop [] zero = refl
get_drop [] (suc k) = refl
get_drop (f ∷ fs) zero = refl
get_drop (f ∷ fs) (suc k) = get_drop fs k

drop_one : (fs : List (List ℕ)) (k : ℕ) → drop 1 (drop k fs) ≡ drop (suc k) fs
drop_one fs zero = refl
drop_one [] (suc k) = refl
drop_one (f ∷ fs) (suc k) = drop_one fs k

leaf_place : (width root : ℕ) (ns : List ℕ) (fs : List (List ℕ)) (k : ℕ) (o : Option (ℕ × List (List ℕ))) → is_leaf width root (get_or ns k 0) (first_number (drop (suc k) ns)) (bar_before fs k) (slice_get (drop k fs) 0) o ≡ is_leaf_at width root ns fs k o
leaf_place width root ns fs k None = refl
leaf_place width root ns fs k (Some x) =
    λ i. fits_leaf width root (get_or ns k 0) ((first_drop ns (suc k) ∙ ap (λ j. get_or ns j 0) (plus_one k)) i) (bar_before fs k) (get_drop fs k i) x

module _ (width root : ℕ) (look : ℕ → Option (List ℕ)) (ns : List ℕ) (fs : List (List ℕ)) where
  pub leaves_step : (k : ℕ) → k < length ns → are_leaves width root look (bar_before fs k) (drop k ns) (drop k fs)
      ≡ (is_leaf_at width root ns fs k (said_by (leaf_in width) (look (get_or ns k 0))) && are_leaves width root look (bar_before fs (k + 1)) (drop (k + 1) ns) (drop (k + 1) fs))
  leaves_step k low =
      ap (λ (l : List ℕ). are_leaves width root look (bar_before fs k) l (drop k fs)) (opened_at ns k low)
      ∙ (λ i. leaf_place width root ns fs k (said_by (leaf_in width) (look (get_or ns k 0))) i && are_leaves width root look (get_drop fs k i) (drop (suc k) ns) (drop_one fs k i))
      ∙ ap (λ j. is_leaf_at width root ns fs k (said_by (leaf_in width) (look (get_or ns k 0))) && are_leaves width root look (bar_before fs j) (drop j ns) (drop j fs)) (plus_one k)

  pub leaves_on : (k : ℕ) (t : Bool) → k < length ns → is_leaf_at width root ns fs k (said_by (leaf_in width) (look (get_or ns k 0))) ≡ true → are_leaves width root look (bar_before fs k) (drop k ns) (drop k fs) ≡ t
      → are_leaves width root look (bar_before fs (k + 1)) (drop (k + 1) ns) (drop (k + 1) fs) ≡ t
  leaves_on k t low here so_far =
      sym (ap (λ b. b && are_leaves width root look (bar_before fs (k + 1)) (drop (k + 1) ns) (drop (k + 1) fs)) here) ∙ sym (leaves_step k low) ∙ so_far

  pub leaves_stop : (k : ℕ) (t : Bool) → k < length ns → is_leaf_at width root ns fs k (said_by (leaf_in width) (look (get_or ns k 0))) ≡ false → are_leaves width root look (bar_before fs k) (drop k ns) (drop k fs) ≡ t → false ≡ t
  leaves_stop k t low here so_far =
      sym (ap (λ b. b && are_leaves width root look (bar_before fs (k + 1)) (drop (k + 1) ns) (drop (k + 1) fs)) here) ∙ sym (leaves_step k low) ∙ so_far

  pub leaves_end : (k : ℕ) (t : Bool) → length ns ≤ k → are_leaves width root look (bar_before fs k) (drop k ns) (drop k fs) ≡ t → true ≡ t
  leaves_end k t past so_far = ap (λ (l : List ℕ). are_leaves width root look (bar_before fs k) l (drop k fs)) (sym (drop_all k ns past)) ∙ so_far

-- ---- what such leaves are

first_front : (ls : List Leaf) → first_number (numbers ls) ≡ front ls 0
first_front [] = refl
first_front (l ∷ ls) = refl

mixed : (h b a hs p : Bool) → ((((true && h) && b) && a) && (hs && p)) ≡ ((h && hs) && ((b && a) && p))
mixed true true true hs p = refl
mixed true true false true p = refl
mixed true true false false p = refl
mixed true false a true p = refl
mixed true false a false p = refl
mixed false b a hs p = refl

same_test : (a b : ℕ) → a ≡ b → eqb a b ≡ true
same_test a b h = grind (arith, nat_tests)

test_same : (a b : ℕ) → eqb a b ≡ true → a ≡ b
test_same a b h = grind (arith, nat_tests)

module _ (width root : ℕ) (look : ℕ → Option (List ℕ)) where
  -- of leaves in a chain: each is at least half full, and stands between its separators
  pub leaves_equal : (o : Option (List ℕ)) (ls : List Leaf) (fs : List (List ℕ)) → BlockChain (leaf_in width) look ls 0 → are_leaves width root look o (numbers ls) fs ≡ (half_leaves width root ls && parts o ls fs)
  leaves_equal o [] fs chain = refl
  leaves_equal o (l ∷ ls) fs chain =
      let half = is_half root (leaf_half width) l.0 (length l.1) in
      let b = is_behind o l.1 in
      let a = is_ahead l.1 (slice_get fs 0) in
      (λ i. is_leaf width root l.0 (first_front ls i) o (slice_get fs 0) (chain.1 i) && leaves_equal (slice_get fs 0) ls (drop 1 fs) chain.2 i)
      ∙ ap (λ t. (((t && half) && b) && a) && (half_leaves width root ls && parts (slice_get fs 0) ls (drop 1 fs))) (same_test (front ls 0) (front ls 0) refl)
      ∙ mixed half b a (half_leaves width root ls) (parts (slice_get fs 0) ls (drop 1 fs))

  pub record LeavesThere (ns : List ℕ) : Type 0 where
    pub leaves : List Leaf
    pub at : numbers leaves ≡ ns
    pub chain : BlockChain (leaf_in width) look leaves 0

  four : (a b c d : Bool) → (((a && b) && c) && d) ≡ true → a ≡ true
  four true b c d h = refl
  four false b c d h = absurd (true≢false (sym h))

  there_by : (n : ℕ) (ns : List ℕ) (before after : Option (List ℕ)) (o : Option (ℕ × List (List ℕ))) → said_by (leaf_in width) (look n) ≡ o → (n ≡ 0 → ⊥) → LeavesThere ns → is_leaf width root n (first_number ns) before after o ≡ true → LeavesThere (n ∷ ns)
  there_by n ns before after None said some rest is = absurd (true≢false (sym is))
  there_by n ns before after (Some x) said some rest is =
      let next : x.0 ≡ front rest.leaves 0 = test_same x.0 (first_number ns) (four (eqb x.0 (first_number ns)) (is_half root (leaf_half width) n (length x.1)) (is_behind before x.1) (is_ahead x.1 after) is) ∙ ap first_number (sym rest.at) ∙ first_front rest.leaves in
      record {
        leaves = (n, x.1) ∷ rest.leaves;
        at = ap (λ (l : List ℕ). n ∷ l) rest.at;
        chain = (some, said ∙ ap (λ k. Some (k, x.1)) next, rest.chain);
      }

  pub leaves_there : (o : Option (List ℕ)) (ns : List ℕ) (fs : List (List ℕ)) → times 0 ns ≡ 0 → are_leaves width root look o ns fs ≡ true → LeavesThere ns
  leaves_there o [] fs some is = record { leaves = []; at = refl; chain = tt }
  leaves_there o (n ∷ ns) fs some is =
      let off = times_apart 0 n ns some in
      let both = and_parts (is_leaf width root n (first_number ns) o (slice_get fs 0) (said_by (leaf_in width) (look n))) (are_leaves width root look (slice_get fs 0) ns (drop 1 fs)) is in
      there_by n ns o (slice_get fs 0) (said_by (leaf_in width) (look n)) refl off.0 (leaves_there (slice_get fs 0) ns (drop 1 fs) off.1 both.1) both.0
