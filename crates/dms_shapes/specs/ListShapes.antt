-- Whether chains that were walked are all blocks of a file, and so its list.
use Rattle.std.proofs.Common.{◌≡◌, ℕ, zero, suc, ◌+◌, ◌<◌, ◌≤◌, List, [], ◌∷◌, ◌++◌, Bool, true, false, cond, eqb, Some, None, refl, sym, ap, subst, ◌∙◌, length, slice_get, replicate, arith}
use Rattle.std.specs.Prelude.{◌&&◌, is_some}
use Rattle.std.specs.declared.option.Option.{Option}
use Rattle.std.proofs.lemmas.Bool.Decides.{nat_tests}
use Rattle.std.proofs.lemmas.Bool.{true≢false}
use Rattle.std.proofs.lemmas.List.{length-replicate}
use Rattle.dms_chain.specs.Linked.{BlockChain, front, numbers, said_by, times}
use Rattle.dms_chain.specs.ListBlocks.{free_in, head_in, leaf_in}
use Rattle.dms_chain.specs.ListIn.{IsList, Leaf, Spare, list_in}
use Rattle.dms_chain.specs.ListInLaws.{list_is, list_of}
use Rattle.dms_shapes.specs.Walks.{AreFresh, HasLeaves, HasSpares, NoLeaves, NoSpares, is_fresh}
use Rattle.dms_shapes.specs.WalkLaws.{Rest, fresh_low, rest_of}

-- chains from these numbers are all blocks of a file
abbrev pub ChainsAnswer : ℕ → List (List ℕ) → ℕ → ℕ → Bool → Type 0
ChainsAnswer width bs first free b = said_by head_in (slice_get bs 0) ≡ Some (first, free) → b ≡ is_some (list_in width bs)

-- at first no block is met
pub record AllFresh (seen : List Bool) (count : ℕ) : Type 0 where
  pub long : length seen ≡ count
  pub each : (n : ℕ) → n < count → is_fresh seen n ≡ true

fresh_false : (count n : ℕ) → n < count → is_fresh (replicate count false) n ≡ true
fresh_false zero n low = absurd (omega (arith, low))
fresh_false (suc count) zero low = refl
fresh_false (suc count) (suc n) low = fresh_false count n (omega (arith, low))

pub none_met : (count : ℕ) → AllFresh (replicate count false) count
none_met count = record { long = length-replicate count false; each = fresh_false count }

suc_no : (k : ℕ) → eqb (suc k) 0 ≡ false
suc_no k = grind (arith, nat_tests)

-- a pair that is said
abbrev Pair : Type 0
Pair = Option (ℕ × ℕ)

abbrev pair : ℕ → ℕ → Pair
pair a b = Some (a, b)

abbrev first_or : Pair → ℕ
first_or None = 0
first_or (Some p) = p.0

abbrev second_or : Pair → ℕ
second_or None = 0
second_or (Some p) = p.1

no_pair : (a b : ℕ) → pair a b ≡ None → ⊥
no_pair a b h = absurd (cc (h))

-- a chain that goes no further has no rest
none_behind : {A : Type 0} (l : List A) → l ++ [] ≡ l
none_behind [] = refl
none_behind (y ∷ l) = ap (λ k. y ∷ k) (none_behind l)

no_rest_by : {A : Type 0} (reads : List ℕ → Option (ℕ × A)) (look : ℕ → Option (List ℕ)) (ls done rest : List (ℕ × A)) → ls ≡ done ++ rest → front rest 0 ≡ 0 → BlockChain reads look rest 0 → ls ≡ done
no_rest_by reads look ls done [] is begins chain = is ∙ none_behind done
no_rest_by reads look ls done (x ∷ rest) is begins chain = absurd (chain.0 begins)

pub no_rest : {A : Type 0} (reads : List ℕ → Option (ℕ × A)) (look : ℕ → Option (List ℕ)) (first : ℕ) (old seen : List Bool) (ls done : List (ℕ × A)) → Rest reads look first old seen ls done 0 → ls ≡ done
no_rest reads look first old seen ls done r = no_rest_by reads look ls done r.rest r.is r.begins r.chain

module _ (width : ℕ) (bs : List (List ℕ)) (first free : ℕ) (start : List Bool) (begun : AllFresh start (length bs)) (head : said_by head_in (slice_get bs 0) ≡ Some (first, free)) where
  -- what a list of the file has
  module _ (ls : List Leaf) (fs : List Spare) (l : IsList width (length bs) (slice_get bs) ls fs) where
    first_is : front ls 0 ≡ first
    first_is = ap first_or (sym l.head ∙ head)

    free_is : front fs 0 ≡ free
    free_is = ap second_or (sym l.head ∙ head)

    fresh_at : (n : ℕ) (t : Bool) → is_fresh start n ≡ t → times n (numbers ls) + times n (numbers fs) ≤ cond t 1 0
    fresh_at n true is = l.once n
    fresh_at n false is = by (times n (numbers ls) + times n (numbers fs)) refl
      where
        by : (k : ℕ) → times n (numbers ls) + times n (numbers fs) ≡ k → times n (numbers ls) + times n (numbers fs) ≤ 0
        by zero e = omega (arith, e)
        by (suc k) e = absurd (true≢false (sym (begun.each n (l.low n (omega (arith, e)))) ∙ is))

    leaves_fresh : AreFresh start (numbers ls)
    leaves_fresh n = omega (arith, fresh_at n (is_fresh start n) refl)

    spares_fresh : (mid : List Bool) → ((n : ℕ) → is_fresh mid n ≡ (is_fresh start n && eqb (times n (numbers ls)) 0)) → AreFresh mid (numbers fs)
    spares_fresh mid marks n = subst (λ t. times n (numbers fs) ≤ cond {A = ℕ} t 1 0) (sym (marks n)) (by (is_fresh start n) (times n (numbers ls)) (fresh_at n (is_fresh start n) refl))
      where
        by : (a : Bool) (k : ℕ) → k + times n (numbers fs) ≤ cond a 1 0 → times n (numbers fs) ≤ cond (a && eqb k 0) 1 0
        by true zero le = omega (arith, le)
        by true (suc k) le = let none : cond {A = ℕ} (true && eqb (suc k) 0) 1 0 ≡ 0 = ap (λ t. cond {A = ℕ} t 1 0) (suc_no k) in omega (arith, le, none)
        by false k le = omega (arith, le)

    leaves_few : length ls ≤ length start
    leaves_few = omega (arith, begun.long, l.count_is)

    -- the chain that was walked is that of the list
    leaves_same : (mid : List Bool) (met : ℕ) (w : HasLeaves width (slice_get bs) first start mid met) → ls ≡ w.leaves
    leaves_same mid met w = no_rest (leaf_in width) (slice_get bs) first start mid ls w.leaves (rest_of (leaf_in width) (slice_get bs) first start mid w.leaves ls 0 w.walked l.chain first_is)

    spares_same : (mid seen : List Bool) (met : ℕ) (w : HasSpares (slice_get bs) free mid seen met 0) → fs ≡ w.done
    spares_same mid seen met w = no_rest free_in (slice_get bs) free mid seen fs w.done (rest_of free_in (slice_get bs) free mid seen w.done fs 0 w.walked l.free free_is)

  some_blocks : length bs ≡ 0 → ⊥
  some_blocks e = by bs e head
    where
      by : (bs : List (List ℕ)) → length bs ≡ 0 → said_by head_in (slice_get bs 0) ≡ Some (first, free) → ⊥
      by [] e head = absurd (cc (head))
      by (b ∷ bs) e head = absurd (omega (arith, e))

  -- without chains the blocks are no list
  unless_list : ((ls : List Leaf) (fs : List Spare) → IsList width (length bs) (slice_get bs) ls fs → ⊥) → is_some (list_in width bs) ≡ false
  unless_list none = by (list_in width bs) refl
    where
      by : (o : Option (List (List ℕ))) → list_in width bs ≡ o → is_some o ≡ false
      by None is = refl
      by (Some xs) is = let s = list_is width bs xs some_blocks is in absurd (none s.leaves s.spares s.list)

  pub no_leaves_no_list : NoLeaves width (slice_get bs) first start → is_some (list_in width bs) ≡ false
  no_leaves_no_list none = unless_list (λ ls fs l. none ls l.chain (first_is ls fs l) (leaves_fresh ls fs l) l.rises (leaves_few ls fs l))

  module _ (mid : List Bool) (met : ℕ) (w : HasLeaves width (slice_get bs) first start mid met) where
    pub no_spares_no_list : length mid ≡ length start → NoSpares (slice_get bs) free mid → is_some (list_in width bs) ≡ false
    no_spares_no_list long none = unless_list (λ ls fs l.
        none fs l.free (free_is ls fs l)
        (spares_fresh ls fs l mid (λ n. w.walked.marks n ∙ ap (λ (x : List Leaf). is_fresh start n && eqb (times n (numbers x)) 0) (sym (leaves_same ls fs l mid met w))))
        (omega (arith, long, begun.long, l.count_is)))

    module _ (seen : List Bool) (rest : ℕ) (v : HasSpares (slice_get bs) free mid seen rest 0) where
      pub wrong_count : (1 + met + rest ≡ length bs → ⊥) → is_some (list_in width bs) ≡ false
      wrong_count off = unless_list (λ ls fs l.
          off (omega (arith, l.count_is, w.size, v.size, ap length (leaves_same ls fs l mid met w), ap length (spares_same ls fs l mid seen rest v))))

      once_at : (n : ℕ) → times n (numbers w.leaves) + times n (numbers v.done) ≤ cond (is_fresh start n) 1 0
      once_at n = by (is_fresh start n) (times n (numbers w.leaves)) (w.walked.fresh n) (subst (λ t. times n (numbers v.done) ≤ cond t 1 0) (w.walked.marks n) (v.walked.fresh n))
        where
          by : (a : Bool) (k : ℕ) → k ≤ cond a 1 0 → times n (numbers v.done) ≤ cond (a && eqb k 0) 1 0 → k + times n (numbers v.done) ≤ cond a 1 0
          by true zero le fs = omega (arith, fs)
          by true (suc k) le fs = let none : cond {A = ℕ} (true && eqb (suc k) 0) 1 0 ≡ 0 = ap (λ t. cond {A = ℕ} t 1 0) (suc_no k) in omega (arith, le, fs, none)
          by false k le fs = omega (arith, le, fs)

      once_low : (n : ℕ) (a : Bool) → is_fresh start n ≡ a → times n (numbers w.leaves) + times n (numbers v.done) ≤ cond a 1 0
          → (times n (numbers w.leaves) + times n (numbers v.done) ≤ 1) × (0 < times n (numbers w.leaves) + times n (numbers v.done) → n < length bs)
      once_low n true is le = (le, λ some. omega (arith, fresh_low start n is, begun.long))
      once_low n false is le = (omega (arith, le), λ some. absurd (omega (arith, le, some)))

      pub all_list : 1 + met + rest ≡ length bs → is_some (list_in width bs) ≡ true
      all_list count = ap is_some (list_of width bs w.leaves v.done (record {
        head = head ∙ (λ i. Some (sym w.walked.begins i, sym v.walked.begins i));
        chain = w.walked.chain;
        free = v.walked.chain;
        count_is = omega (arith, count, w.size, v.size);
        once = λ n. (once_low n (is_fresh start n) refl (once_at n)).0;
        low = λ n. (once_low n (is_fresh start n) refl (once_at n)).1;
        rises = w.rises;
      }))

-- without a head the blocks are no list
pub no_head_no_list : (width : ℕ) (bs : List (List ℕ)) → (length bs ≡ 0 → ⊥) → said_by head_in (slice_get bs 0) ≡ None → is_some (list_in width bs) ≡ false
no_head_no_list width bs some none = by (list_in width bs) refl
  where
    by : (o : Option (List (List ℕ))) → list_in width bs ≡ o → is_some o ≡ false
    by None is = refl
    by (Some xs) is = let s = list_is width bs xs some is in absurd (no_pair _ _ (sym s.list.head ∙ none))

-- no block is the empty list
pub empty_list : (width : ℕ) (bs : List (List ℕ)) → length bs ≡ 0 → is_some (list_in width bs) ≡ true
unfolding list_in
empty_list width [] e = refl
empty_list width (b ∷ bs) e = absurd (omega (arith, e))
