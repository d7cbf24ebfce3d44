-- Walks along chains: one block further, and what no chain can have.
use Rattle.std.proofs.Common.{◌≡◌, ℕ, zero, suc, ◌+◌, ◌<◌, ◌≤◌, slice_get, List, [], ◌∷◌, ◌++◌, Bool, true, false, cond, eqb, Some, None, refl, sym, ap, subst, ◌∙◌, length, length-append, append_assoc, arith}
use Rattle.std.specs.Prelude.{◌&&◌, not, slice_set}
use Rattle.std.specs.declared.option.Option.{Option}
use Rattle.std.specs.Ordering.{is_lt}
use Rattle.std.specs.declared.cmp.Ordering.{Ordering}
use Rattle.std.specs.declared.cmp.Ordering.TheVariants.{Less, Equal, Greater}
use Rattle.std.proofs.lemmas.Bool.Decides.{nat_tests}
use Rattle.std.proofs.lemmas.Bool.{true≢false}
use Rattle.dms_chain.specs.Leads.{is_rises, last_of, rises_first, rising_is}
use Rattle.dms_chain.specs.Lists.{AreInByteOrder, bytes_cmp, or_else}
use Rattle.dms_chain.specs.Linked.{BlockChain, front, numbers, said_by, times}
use Rattle.dms_chain.specs.LinkedLaws.{chain_both, numbers_times, times_other, times_own}
use Rattle.dms_chain.specs.ListBlocks.{before_first, free_in, is_rising, leaf_in}
use Rattle.dms_chain.specs.ListIn.{Leaf, Spare, entries_of}
use Rattle.dms_chain.specs.SpellLaws.{IsLeaf, leaf_is}
use Rattle.dms_shapes.specs.Walks.{HasLeaves, HasSpares, NoLeaves, NoSpares, Walked, WalkedLeaves, goes_on, is_fresh}

-- ---- marks

-- a fresh number is below the number of blocks
pub fresh_low : (seen : List Bool) (n : ℕ) → is_fresh seen n ≡ true → n < length seen
fresh_low [] n h = absurd (true≢false (sym h))
fresh_low (x ∷ seen) zero h = omega arith
fresh_low (x ∷ seen) (suc n) h = omega (arith, fresh_low seen n h)

still : (b t : Bool) → t ≡ false → b ≡ (b && not t)
still true true off = absurd (true≢false off)
still true false off = refl
still false t off = refl

-- after one more mark
pub mark_one : (seen : List Bool) (at n : ℕ) → at < length seen → is_fresh (slice_set seen at true) n ≡ (is_fresh seen n && not (eqb at n))
mark_one [] at n low = absurd (omega (arith, low))
mark_one (x ∷ seen) zero zero low = last (not x)
  where
    last : (b : Bool) → false ≡ (b && false)
    last true = refl
    last false = refl
mark_one (x ∷ seen) zero (suc n) low = still (is_fresh seen n) (eqb 0 (suc n)) (grind (arith, nat_tests))
mark_one (x ∷ seen) (suc at) zero low = still (not x) (eqb (suc at) 0) (grind (arith, nat_tests))
mark_one (x ∷ seen) (suc at) (suc n) low = mark_one seen at n (omega (arith, low)) ∙ ap (λ t. is_fresh seen n && not t) (both at n)
  where
    both : (a b : ℕ) → eqb a b ≡ eqb (suc a) (suc b)
    both a b = grind (arith, nat_tests)

-- ---- one block further

and_swap : (a b c : Bool) → ((a && b) && c) ≡ (a && (c && b))
and_swap true true true = refl
and_swap true true false = refl
and_swap true false true = refl
and_swap true false false = refl
and_swap false b c = refl

none_of_both : (a n : ℕ) (k : ℕ) → (eqb (cond (eqb a n) 1 0 + k) 0) ≡ (not (eqb a n) && eqb k 0)
none_of_both a n k = by (eqb a n)
  where
    by : (t : Bool) → eqb (cond t 1 0 + k) 0 ≡ (not t && eqb k 0)
    by true = grind (arith, nat_tests)
    by false = grind (arith, nat_tests)

module _ {A : Type 0} (reads : List ℕ → Option (ℕ × A)) (look : ℕ → Option (List ℕ)) (first : ℕ) (old seen : List Bool) where
  -- the numbers with one more
  more_times : (done : List (ℕ × A)) (at : ℕ) (x : A) (n : ℕ) → times n (numbers (done ++ (at, x) ∷ [])) ≡ times n (numbers done) + times n (at ∷ [])
  more_times done at x n = numbers_times n done ((at, x) ∷ [])

  pub fresh_now : (done : List (ℕ × A)) (at n : ℕ) → Walked reads look first old seen done at → is_fresh seen n ≡ true → (is_fresh old n ≡ true) × (times n (numbers done) ≡ 0)
  fresh_now done at n w h = by (is_fresh old n) (times n (numbers done)) (sym (w.marks n) ∙ h)
    where
      by : (a : Bool) (k : ℕ) → (a && eqb k 0) ≡ true → (a ≡ true) × (k ≡ 0)
      by true k e = (refl, grind (arith, nat_tests, e))
      by false k e = absurd (true≢false (sym e))

  pub walk_on : (done : List (ℕ × A)) (at next : ℕ) (x : A) → Walked reads look first old seen done at → (at ≡ 0 → ⊥) → is_fresh seen at ≡ true → said_by reads (look at) ≡ Some (next, x)
      → Walked reads look first old (slice_set seen at true) (done ++ (at, x) ∷ []) next
  walk_on done at next x w some fresh said =
      let was = fresh_now done at at w fresh in
      let low = fresh_low seen at fresh in
      record {
        chain = chain_both reads look done ((at, x) ∷ []) next w.chain (some, said, tt);
        begins = begins_on done w.begins;
        fresh = λ n. fresh_on n (eqb at n) refl was.0 was.1 (w.fresh n);
        marks = λ n. mark_one seen at n low ∙ ap (λ t. t && not (eqb at n)) (w.marks n)
            ∙ and_swap (is_fresh old n) (eqb (times n (numbers done)) 0) (not (eqb at n))
            ∙ ap (λ t. is_fresh old n && t) (sym (marks_on n));
      }
    where
      begins_on : (done : List (ℕ × A)) → front done at ≡ first → front (done ++ (at, x) ∷ []) next ≡ first
      begins_on [] h = h
      begins_on (d ∷ ds) h = h

      marks_on : (n : ℕ) → eqb (times n (numbers (done ++ (at, x) ∷ []))) 0 ≡ (not (eqb at n) && eqb (times n (numbers done)) 0)
      marks_on n = ap (λ k. eqb k 0) (let e : times n (numbers (done ++ (at, x) ∷ [])) ≡ cond (eqb at n) 1 0 + times n (numbers done) = omega (arith, more_times done at x n) in e) ∙ none_of_both at n (times n (numbers done))

      fresh_on : (n : ℕ) (t : Bool) → eqb at n ≡ t → is_fresh old at ≡ true → times at (numbers done) ≡ 0 → times n (numbers done) ≤ cond (is_fresh old n) 1 0 → times n (numbers (done ++ (at, x) ∷ [])) ≤ cond (is_fresh old n) 1 0
      fresh_on n true is free none le =
          let e : at ≡ n = grind (arith, nat_tests, is) in
          let one : cond {A = ℕ} (is_fresh old n) 1 0 ≡ 1 = ap (λ t. cond {A = ℕ} t 1 0) (subst (λ k. is_fresh old k ≡ true) e free) in
          let zero_times : times n (numbers done) ≡ 0 = subst (λ k. times k (numbers done) ≡ 0) e none in
          let own : times n (at ∷ []) ≡ 1 = subst (λ k. times n (k ∷ []) ≡ 1) (sym e) (times_own n) in
          omega (arith, more_times done at x n, one, zero_times, own)
      fresh_on n false is free none le =
          let off : times n (at ∷ []) ≡ 0 = times_other n at (λ e. absurd (true≢false (sym (let y : eqb at n ≡ true = grind (arith, nat_tests, e) in y) ∙ is))) in
          omega (arith, more_times done at x n, off, le)

  -- what is left of a whole chain from the same block on
  pub record Rest (ls done : List (ℕ × A)) (at : ℕ) : Type 0 where
    pub rest : List (ℕ × A)
    pub is : ls ≡ done ++ rest
    pub begins : front rest 0 ≡ at
    pub chain : BlockChain reads look rest 0

  abbrev next_in : Option (ℕ × A) → ℕ
  next_in None = 0
  next_in (Some x) = x.0

  abbrev held_in : A → Option (ℕ × A) → A
  held_in a None = a
  held_in a (Some x) = x.1

  rest_from : (done ls : List (ℕ × A)) (at : ℕ) → BlockChain reads look done at → BlockChain reads look ls 0 → front ls 0 ≡ front done at → Rest ls done at
  rest_from [] ls at walked whole same = record { rest = ls; is = refl; begins = same; chain = whole }
  rest_from (d ∷ ds) [] at walked whole same = absurd (walked.0 (sym same))
  rest_from (d ∷ ds) (l ∷ ls) at walked whole same =
      let said : Some (front ds at, d.1) ≡ Some (front ls 0, l.1) = sym walked.1 ∙ ap (λ n. said_by reads (look n)) (sym same) ∙ whole.1 in
      let r = rest_from ds ls at walked.2 whole.2 (sym (ap next_in said)) in
      let one : l ≡ d = λ i. (same i, ap (held_in l.1) (sym said) i) in
      record { rest = r.rest; is = λ i. one i ∷ r.is i; begins = r.begins; chain = r.chain }

  pub rest_of : (done ls : List (ℕ × A)) (at : ℕ) → Walked reads look first old seen done at → BlockChain reads look ls 0 → front ls 0 ≡ first → Rest ls done at
  rest_of done ls at w whole begins = rest_from done ls at w.chain whole (begins ∙ sym w.begins)

-- ---- order

less_test : (o : Ordering) → is_lt o ≡ true → o ≡ Less
less_test Less h = refl
less_test Equal h = absurd (true≢false (sym h))
less_test Greater h = absurd (true≢false (sym h))

entries_append : (xs ys : List Leaf) → entries_of (xs ++ ys) ≡ entries_of xs ++ entries_of ys
entries_append [] ys = refl
entries_append (x ∷ xs) ys = ap (λ (l : List (List ℕ)). x.1 ++ l) (entries_append xs ys) ∙ sym (append_assoc x.1 (entries_of xs) (entries_of ys))

-- is_rising of two lists one behind the other
pub rising_append : (xs ys : List (List ℕ)) → is_rising (xs ++ ys) ≡ ((is_rising xs && goes_on (last_of xs) ys) && is_rising ys)
rising_append [] ys = refl
rising_append (x ∷ []) ys = ap (λ t. t && is_rising ys) (alone (before_first x ys))
  where
    alone : (b : Bool) → b ≡ (true && b)
    alone true = refl
    alone false = refl
rising_append (x ∷ y ∷ xs) ys =
    ap (λ t. is_lt (bytes_cmp x y) && t) (rising_append (y ∷ xs) ys)
    ∙ turn (is_lt (bytes_cmp x y)) (is_rising (y ∷ xs)) (goes_on (last_of (y ∷ xs)) ys) (is_rising ys)
    ∙ ap (λ (o : Option (List ℕ)). ((is_lt (bytes_cmp x y) && is_rising (y ∷ xs)) && goes_on o ys) && is_rising ys) (sym (behind_some x (last_of xs) y))
  where
    turn : (a b c d : Bool) → (a && ((b && c) && d)) ≡ (((a && b) && c) && d)
    turn true b c d = refl
    turn false b c d = refl

    behind_some : (x : List ℕ) (o : Option (List ℕ)) (y : List ℕ) → or_else (or_else o (Some y)) (Some x) ≡ or_else o (Some y)
    behind_some x None y = refl
    behind_some x (Some z) y = refl

three : (a b c : Bool) → ((a && b) && c) ≡ true → (a ≡ true) × (b ≡ true) × (c ≡ true)
three true true true h = (refl, refl, refl)
three true true false h = absurd (true≢false (sym h))
three true false c h = absurd (true≢false (sym h))
three false b c h = absurd (true≢false (sym h))

pub rises_on : (xs ys : List (List ℕ)) → AreInByteOrder xs → AreInByteOrder ys → goes_on (last_of xs) ys ≡ true → AreInByteOrder (xs ++ ys)
rises_on xs ys r s on =
    is_rises (xs ++ ys) (rising_append xs ys ∙ (λ i. (rising_is xs r i && on i) && rising_is ys s i))

pub rises_goes : (xs ys : List (List ℕ)) → AreInByteOrder (xs ++ ys) → goes_on (last_of xs) ys ≡ true
rises_goes xs ys r = (three (is_rising xs) (goes_on (last_of xs) ys) (is_rising ys) (sym (rising_append xs ys) ∙ rising_is (xs ++ ys) r)).1

last_append : (xs ys : List (List ℕ)) (y : List ℕ) → last_of (xs ++ y ∷ ys) ≡ last_of (y ∷ ys)
last_append [] ys y = refl
last_append (x ∷ xs) ys y = ap (λ (o : Option (List ℕ)). or_else o (Some x)) (last_append xs ys y) ∙ some (last_of ys)
  where
    some : (o : Option (List ℕ)) → or_else (or_else o (Some y)) (Some x) ≡ or_else o (Some y)
    some None = refl
    some (Some z) = refl

-- the last one is at the last place
pub last_at : (xs : List (List ℕ)) (k : ℕ) → k + 1 ≡ length xs → slice_get xs k ≡ last_of xs
last_at [] k e = absurd (omega (arith, e))
last_at (x ∷ []) zero e = refl
last_at (x ∷ []) (suc k) e = absurd (omega (arith, e))
last_at (x ∷ y ∷ xs) zero e = absurd (omega (arith, e))
last_at (x ∷ y ∷ xs) (suc k) e = last_at (y ∷ xs) k (omega (arith, e)) ∙ sym (behind_one x (last_of xs) y)
  where
    behind_one : (x : List ℕ) (o : Option (List ℕ)) (y : List ℕ) → or_else (or_else o (Some y)) (Some x) ≡ or_else o (Some y)
    behind_one x None y = refl
    behind_one x (Some z) y = refl

pub last_none : (xs : List (List ℕ)) → length xs ≡ 0 → last_of xs ≡ None
last_none [] e = refl
last_none (x ∷ xs) e = absurd (omega (arith, e))

abbrev Held : Type 0
Held = Option (ℕ × List (List ℕ))

abbrev some_held : ℕ → List (List ℕ) → Held
some_held a x = Some (a, x)

abbrev held_or : List (List ℕ) → Held → List (List ℕ)
held_or x None = x
held_or x (Some p) = p.1

no_some : (a : ℕ) (x : List (List ℕ)) → some_held a x ≡ None → ⊥
no_some a x h = absurd (cc (h))

pair_same : (a b : ℕ) (x y : List (List ℕ)) → some_held a x ≡ some_held b y → x ≡ y
pair_same a b x y h = ap (held_or x) h

-- ---- blocks of entries

module _ (width : ℕ) (look : ℕ → Option (List ℕ)) (first : ℕ) (old : List Bool) where
  -- nothing was met
  pub no_leaves_met : WalkedLeaves width look first old old 0 first None
  no_leaves_met = record {
    done = [];
    walked = record { chain = tt; begins = refl; fresh = λ n. omega arith; marks = λ n. alone (is_fresh old n) };
    size = refl;
    rises = tt;
    last_is = refl;
  }
    where
      alone : (b : Bool) → b ≡ (b && true)
      alone true = refl
      alone false = refl

  -- one block more
  pub leaf_met : (seen : List Bool) (met at next : ℕ) (last : Option (List ℕ)) (x : List ℕ) (xs : List (List ℕ)) → WalkedLeaves width look first old seen met at last → (at ≡ 0 → ⊥) → is_fresh seen at ≡ true
      → said_by (leaf_in width) (look at) ≡ Some (next, x ∷ xs) → AreInByteOrder (x ∷ xs) → goes_on last (x ∷ xs) ≡ true
      → WalkedLeaves width look first old (slice_set seen at true) (met + 1) next (last_of (x ∷ xs))
  leaf_met seen met at next last x xs w some fresh said rises on = record {
    done = w.done ++ (at, x ∷ xs) ∷ [];
    walked = walk_on (leaf_in width) look first old seen w.done at next (x ∷ xs) w.walked some fresh said;
    size = omega (arith, length-append w.done ((at, x ∷ xs) ∷ []), w.size);
    rises = subst AreInByteOrder (sym entries) (rises_on (entries_of w.done) (x ∷ xs) w.rises rises (ap (λ (o : Option (List ℕ)). goes_on o (x ∷ xs)) w.last_is ∙ on));
    last_is = ap last_of entries ∙ last_append (entries_of w.done) xs x;
  }
    where
      nil : (l : List (List ℕ)) → l ++ [] ≡ l
      nil [] = refl
      nil (y ∷ l) = ap (λ (k : List (List ℕ)). y ∷ k) (nil l)

      entries : entries_of (w.done ++ (at, x ∷ xs) ∷ []) ≡ entries_of w.done ++ x ∷ xs
      entries = entries_append w.done ((at, x ∷ xs) ∷ []) ∙ ap (λ (l : List (List ℕ)). entries_of w.done ++ l) (nil (x ∷ xs))

  leaf_here : (o : Option (List ℕ)) (next : ℕ) (es : List (List ℕ)) → said_by (leaf_in width) o ≡ Some (next, es) → IsLeaf width next es
  leaf_here None next es said = absurd (cc (said))
  leaf_here (Some b) next es said = leaf_is width b next es said

  pub leaf_met_by : (seen : List Bool) (met at next : ℕ) (last : Option (List ℕ)) (es : List (List ℕ)) → WalkedLeaves width look first old seen met at last → (at ≡ 0 → ⊥) → is_fresh seen at ≡ true
      → said_by (leaf_in width) (look at) ≡ Some (next, es) → goes_on last es ≡ true → WalkedLeaves width look first old (slice_set seen at true) (met + 1) next (last_of es)
  leaf_met_by seen met at next last [] w some fresh said on = absurd (omega (arith, (leaf_here (look at) next [] said).holds.some))
  leaf_met_by seen met at next last (x ∷ xs) w some fresh said on = leaf_met seen met at next last x xs w some fresh said (is_rises (x ∷ xs) (leaf_here (look at) next (x ∷ xs) said).holds.rising) on

  -- the chain ends
  pub leaves_end : (seen : List Bool) (met at : ℕ) (last : Option (List ℕ)) → WalkedLeaves width look first old seen met at last → at ≡ 0 → HasLeaves width look first old seen met
  leaves_end seen met at last w none = record { leaves = w.done; walked = subst (λ n. Walked (leaf_in width) look first old seen w.done n) none w.walked; size = w.size; rises = w.rises }

  -- ---- no chain has this

  module _ (seen : List Bool) (met at : ℕ) (last : Option (List ℕ)) (w : WalkedLeaves width look first old seen met at last) (some : at ≡ 0 → ⊥) where
    -- a whole chain goes on with a block there
    record On (ls : List Leaf) : Type 0 where
      next : ℕ
      here : List (List ℕ)
      behind : List Leaf
      is : ls ≡ w.done ++ (at, here) ∷ behind
      said : said_by (leaf_in width) (look at) ≡ Some (next, here)

    on_from : (ls : List Leaf) → (r : Rest (leaf_in width) look first old seen ls w.done at) → On ls
    on_from ls r = by r.rest r.is r.begins r.chain
      where
        by : (rest : List Leaf) → ls ≡ w.done ++ rest → front rest 0 ≡ at → BlockChain (leaf_in width) look rest 0 → On ls
        by [] is begins chain = absurd (some (sym begins))
        by (l ∷ rest) is begins chain = record {
          next = front rest 0;
          here = l.1;
          behind = rest;
          is = is ∙ ap (λ n. w.done ++ (n, l.1) ∷ rest) begins;
          said = ap (λ n. said_by (leaf_in width) (look n)) (sym begins) ∙ chain.1;
        }

    on_of : (ls : List Leaf) → BlockChain (leaf_in width) look ls 0 → front ls 0 ≡ first → On ls
    on_of ls chain begins = on_from ls (rest_of (leaf_in width) look first old seen w.done ls at w.walked chain begins)

    -- the block was met, or isn't there
    pub met_twice : is_fresh seen at ≡ false → NoLeaves width look first old
    met_twice off ls chain begins fresh rises few = by (on_of ls chain begins)
      where
        counted : (o : On ls) → times at (numbers ls) ≡ times at (numbers w.done) + (1 + times at (numbers o.behind))
        counted o = ap (λ (l : List Leaf). times at (numbers l)) o.is ∙ numbers_times at w.done ((at, o.here) ∷ o.behind) ∙ ap (λ k. times at (numbers w.done) + (k + times at (numbers o.behind))) own
          where
            own : cond {A = ℕ} (eqb at at) 1 0 ≡ 1
            own = grind (arith, nat_tests)

        two : (a : Bool) (k t : ℕ) → (a && eqb k 0) ≡ false → t ≤ cond a 1 0 → k + 1 ≤ t → ⊥
        two true zero t h le more = absurd (true≢false h)
        two true (suc k) t h le more = omega (arith, le, more)
        two false k t h le more = omega (arith, le, more)

        by : On ls → ⊥
        by o = two (is_fresh old at) (times at (numbers w.done)) (times at (numbers ls)) (sym (w.walked.marks at) ∙ off) (fresh at) (omega (arith, counted o))

    -- no block of entries stands there
    pub no_leaf : said_by (leaf_in width) (look at) ≡ None → NoLeaves width look first old
    no_leaf none ls chain begins fresh rises few = let o = on_of ls chain begins in no_some o.next o.here (sym o.said ∙ none)

    -- its entries don't go on
    pub no_order : (next : ℕ) (here : List (List ℕ)) → said_by (leaf_in width) (look at) ≡ Some (next, here) → goes_on last here ≡ false → NoLeaves width look first old
    no_order next here said off ls chain begins fresh rises few =
        let o = on_of ls chain begins in
        let same : o.here ≡ here = pair_same o.next next o.here here (sym o.said ∙ said) in
        let entries : entries_of ls ≡ entries_of w.done ++ (o.here ++ entries_of o.behind) = ap entries_of o.is ∙ entries_append w.done ((at, o.here) ∷ o.behind) in
        let front_rises : AreInByteOrder (entries_of w.done ++ o.here) = rises_first (entries_of w.done ++ o.here) (entries_of o.behind) (subst AreInByteOrder (entries ∙ sym (append_assoc (entries_of w.done) o.here (entries_of o.behind))) rises) in
        true≢false (sym (rises_goes (entries_of w.done) o.here front_rises) ∙ (λ i. goes_on (w.last_is i) (same i)) ∙ off)

    -- it has too many blocks
    pub too_long : length old ≤ met → NoLeaves width look first old
    too_long long ls chain begins fresh rises few =
        let o = on_of ls chain begins in
        omega (arith, few, long, w.size, ap length o.is, length-append w.done ((at, o.here) ∷ o.behind))

-- ---- free blocks

abbrev some_spare : ℕ → Option (ℕ × Unit {0})
some_spare a = Some (a, tt)

no_spare_said : (a : ℕ) → some_spare a ≡ None → ⊥
no_spare_said a h = absurd (cc (h))

module _ (look : ℕ → Option (List ℕ)) (first : ℕ) (old : List Bool) where
  pub no_spares_met : HasSpares look first old old 0 first
  no_spares_met = record { done = []; walked = record { chain = tt; begins = refl; fresh = λ n. omega arith; marks = λ n. alone (is_fresh old n) }; size = refl }
    where
      alone : (b : Bool) → b ≡ (b && true)
      alone true = refl
      alone false = refl

  pub spare_met : (seen : List Bool) (met at next : ℕ) → HasSpares look first old seen met at → (at ≡ 0 → ⊥) → is_fresh seen at ≡ true → said_by free_in (look at) ≡ Some (next, tt)
      → HasSpares look first old (slice_set seen at true) (met + 1) next
  spare_met seen met at next w some fresh said = record {
    done = w.done ++ (at, tt) ∷ [];
    walked = walk_on free_in look first old seen w.done at next tt w.walked some fresh said;
    size = omega (arith, length-append w.done ((at, tt) ∷ []), w.size);
  }

  pub spares_end : (seen : List Bool) (met at : ℕ) → HasSpares look first old seen met at → at ≡ 0 → HasSpares look first old seen met 0
  spares_end seen met at w none = subst (λ n. HasSpares look first old seen met n) none w

  module _ (seen : List Bool) (met at : ℕ) (w : HasSpares look first old seen met at) (some : at ≡ 0 → ⊥) where
    record OnSpares (ls : List Spare) : Type 0 where
      next : ℕ
      behind : List Spare
      is : ls ≡ w.done ++ (at, tt) ∷ behind
      said : said_by free_in (look at) ≡ Some (next, tt)

    spares_from : (ls : List Spare) → (r : Rest free_in look first old seen ls w.done at) → OnSpares ls
    spares_from ls r = by r.rest r.is r.begins r.chain
      where
        by : (rest : List Spare) → ls ≡ w.done ++ rest → front rest 0 ≡ at → BlockChain free_in look rest 0 → OnSpares ls
        by [] is begins chain = absurd (some (sym begins))
        by (l ∷ rest) is begins chain = record {
          next = front rest 0;
          behind = rest;
          is = is ∙ ap (λ n. w.done ++ (n, tt) ∷ rest) begins;
          said = ap (λ n. said_by free_in (look n)) (sym begins) ∙ chain.1;
        }

    spares_of : (ls : List Spare) → BlockChain free_in look ls 0 → front ls 0 ≡ first → OnSpares ls
    spares_of ls chain begins = spares_from ls (rest_of free_in look first old seen w.done ls at w.walked chain begins)

    pub spare_twice : is_fresh seen at ≡ false → NoSpares look first old
    spare_twice off ls chain begins fresh few = by (spares_of ls chain begins)
      where
        counted : (o : OnSpares ls) → times at (numbers ls) ≡ times at (numbers w.done) + (1 + times at (numbers o.behind))
        counted o = ap (λ (l : List Spare). times at (numbers l)) o.is ∙ numbers_times at w.done ((at, tt) ∷ o.behind) ∙ ap (λ k. times at (numbers w.done) + (k + times at (numbers o.behind))) own
          where
            own : cond {A = ℕ} (eqb at at) 1 0 ≡ 1
            own = grind (arith, nat_tests)

        two : (a : Bool) (k t : ℕ) → (a && eqb k 0) ≡ false → t ≤ cond a 1 0 → k + 1 ≤ t → ⊥
        two true zero t h le more = absurd (true≢false h)
        two true (suc k) t h le more = omega (arith, le, more)
        two false k t h le more = omega (arith, le, more)

        by : OnSpares ls → ⊥
        by o = two (is_fresh old at) (times at (numbers w.done)) (times at (numbers ls)) (sym (w.walked.marks at) ∙ off) (fresh at) (omega (arith, counted o))

    pub no_spare : said_by free_in (look at) ≡ None → NoSpares look first old
    no_spare none ls chain begins fresh few = let o = spares_of ls chain begins in no_spare_said o.next (sym o.said ∙ none)

    pub spares_too_long : length old ≤ met → NoSpares look first old
    spares_too_long long ls chain begins fresh few =
        let o = spares_of ls chain begins in
        omega (arith, few, long, w.size, ap length o.is, length-append w.done ((at, tt) ∷ o.behind))
