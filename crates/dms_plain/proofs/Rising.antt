-- Entries of manual subsets in order: halving finds them, and an entry made or taken out leaves them in order.
use Rattle.std.proofs.Common.{◌≡◌, ◌+◌, ◌<◌, ◌≤◌, ℕ, zero, suc, List, [], ◌∷◌, ◌++◌, Bool, true, false, cond, refl, sym, ap, subst, ◌∙◌, arith, length, get_or, inl, inr}
use Rattle.std.specs.Prelude.{not, insert, ◌&&◌, ◌||◌, ◌==◌, nat_lt}
use Rattle.std.specs.List.{AllByRecursion, list_any, filter}
use Rattle.std.specs.declared.result.Result.{Result}
use Rattle.std.specs.declared.result.Result.TheVariants.{Ok, Err}
use Rattle.std.specs.List.Sorted.{IsSearchInRange, IsBinarySearchResult, IsNonDecreasingBy, IsSortedBy}
use Rattle.std.specs.Cmp.{IsTotalOrder, nat_cmp_total}
use Rattle.std.specs.FinMap.{IsAntisymmetric, nat_cmp-IsAntisymmetric}
use Rattle.std.specs.Ordering.{is_eq, is_lt, nat_cmp, ordering_index, ordering_reverse, ordering_then}
use Rattle.std.specs.declared.cmp.Ordering.{Ordering}
use Rattle.std.specs.declared.cmp.Ordering.TheVariants.{Less, Equal, Greater}
use Rattle.std.proofs.lemmas.Bool.Decides.{nat_tests}
use Rattle.std.proofs.lemmas.Bool.{cases_lt, cases_order}
use Rattle.std.proofs.lemmas.Cmp.{on_total, then_total}
use Rattle.std.proofs.lemmas.List.Folds.{list_any_at, list_any_none}
use Rattle.std.proofs.lemmas.Map.Views.{any-filter_same}
use Rattle.std.proofs.lemmas.List.Sorted.{searchable_from_sorted}
use Rattle.dms_desc.specs.Sorted.{place_in}
use Rattle.dms_model.specs.Db.{SubsetEntry}
use Rattle.dms_model.specs.Members.{names}
use Rattle.dms_model.specs.Places.{then_equal}
use Rattle.dms_model.specs.Uses.{entry_before, entry_of, is_not_entry}
use Rattle.dms_model.specs.Valid.{AreRising, entry_cmp}
use Rattle.dms_plain.specs.Moves.{IsEntryAt, before_moves, moved_back, stands, without_entry}
use Rattle.dms_plain.specs.declared.manual.EntryMove.{EntryMove}

-- ---- the order of entries

entries_total : IsTotalOrder entry_cmp
entries_total =
    then_total (on_total (λ (e : SubsetEntry). e.subset) nat_cmp_total) (then_total (on_total (λ (e : SubsetEntry). e.owner) nat_cmp_total) (on_total (λ (e : SubsetEntry). e.number) nat_cmp_total))

entries_same : IsAntisymmetric entry_cmp
entries_same a b h =
    let one = then_equal (nat_cmp a.subset b.subset) (ordering_then (nat_cmp a.owner b.owner) (nat_cmp a.number b.number)) h in
    let two = then_equal (nat_cmp a.owner b.owner) (nat_cmp a.number b.number) one.1 in
    let p = nat_cmp-IsAntisymmetric a.subset b.subset one.0 in
    let q = nat_cmp-IsAntisymmetric a.owner b.owner two.0 in
    let r = nat_cmp-IsAntisymmetric a.number b.number two.1 in
    λ i. record { subset = p i; owner = q i; number = r i }

turned : (x y : SubsetEntry) (o : Ordering) → entry_cmp x y ≡ o → entry_cmp y x ≡ ordering_reverse o
turned x y o h = entries_total.antisymm y x ∙ ap ordering_reverse h

tied : (x : SubsetEntry) → entry_cmp x x ≡ Equal
tied x = by (entry_cmp x x) (entries_total.antisymm x x)
  where
    by : (o : Ordering) → o ≡ ordering_reverse o → o ≡ Equal
    by Less h = absurd (cc)
    by Equal h = refl
    by Greater h = absurd (cc)

eq_nat : (x y : ℕ) → (x == y) ≡ is_eq (nat_cmp x y)
eq_nat x y = by (nat_lt x y) (x == y) refl refl
  where
    by : (a b : Bool) → nat_lt x y ≡ a → (x == y) ≡ b → b ≡ is_eq (cond a Less (cond b Equal Greater))
    by true true h k = absurd (grind (arith, nat_tests, h, k))
    by true false h k = refl
    by false true h k = refl
    by false false h k = refl

three : (o p q : Ordering) → ((is_eq o && is_eq p) && is_eq q) ≡ is_eq (ordering_then o (ordering_then p q))
three Less p q = refl
three Greater p q = refl
three Equal Less q = refl
three Equal Greater q = refl
three Equal Equal q = refl

-- ---- lists

all_at : (P : SubsetEntry → Type 0) (es : List SubsetEntry) (j : ℕ) (d : SubsetEntry) → AllByRecursion P es → j < length es → P (get_or es j d)
all_at P [] j d all lt = absurd (omega arith)
all_at P (e ∷ es) zero d all lt = all.0
all_at P (e ∷ es) (suc j) d all lt = all_at P es j d all.1 (omega arith)

all_with : (P : SubsetEntry → Type 0) (k : SubsetEntry) (es : List SubsetEntry) → P k → AllByRecursion P es → AllByRecursion P (place_in entry_before k es)
all_with P k [] h all = (h, tt)
all_with P k (e ∷ es) h all =
    elim (entry_before k e) as (λ b. AllByRecursion P (cond b (k ∷ e ∷ es) (e ∷ place_in entry_before k es))) [
      | true ↦ (h, all)
      | false ↦ (all.0, all_with P k es h all.1)
    ]

all_left : (P : SubsetEntry → Type 0) (p : SubsetEntry → Bool) (es : List SubsetEntry) → AllByRecursion P es → AllByRecursion P (filter p es)
all_left P p [] all = tt
all_left P p (e ∷ es) all =
    elim (p e) as (λ b. AllByRecursion P (cond b (e ∷ filter p es) (filter p es))) [
      | true ↦ (all.0, all_left P p es all.1)
      | false ↦ all_left P p es all.1
    ]

all_more : (P Q : SubsetEntry → Type 0) (es : List SubsetEntry) → ((x : SubsetEntry) → P x → Q x) → AllByRecursion P es → AllByRecursion Q es
all_more P Q [] more all = tt
all_more P Q (e ∷ es) more all = (more e all.0, all_more P Q es more all.1)

none_any : (p : SubsetEntry → Bool) (es : List SubsetEntry) → AllByRecursion (λ x. p x ≡ false) es → list_any p es ≡ false
none_any p [] all = refl
none_any p (e ∷ es) all = λ i. all.0 i || none_any p es all.1 i

or_parts : (a b : Bool) → (a || b) ≡ false → (a ≡ false) × (b ≡ false)
or_parts true b h = absurd (cc)
or_parts false b h = (refl, h)

-- ---- entries in order

rises : (es : List SubsetEntry) (i j : ℕ) (d : SubsetEntry) → AreRising es → i < j → j < length es → entry_cmp (get_or es i d) (get_or es j d) ≡ Less
rises [] i j d order under lt = absurd (omega arith)
rises (e ∷ es) i zero d order under lt = absurd (omega arith)
rises (e ∷ es) zero (suc j) d order under lt = all_at (λ x. entry_cmp e x ≡ Less) es j d order.0 (omega arith)
rises (e ∷ es) (suc i) (suc j) d order under lt = rises es i j d order.1 (omega arith) (omega arith)

sorted : (es : List SubsetEntry) → AreRising es → IsSortedBy (λ a b. is_lt (entry_cmp a b)) es
sorted es order k d from lt = ap is_lt (turned (get_or es k d) (get_or es (k + 1) d) Less (rises es k (k + 1) d order (omega arith) lt))

searchable : (es : List SubsetEntry) (k : SubsetEntry) → AreRising es → IsNonDecreasingBy (λ e. ordering_index (entry_cmp e k)) es
searchable es k order = searchable_from_sorted entries_total (λ (e : SubsetEntry). e) es k (sorted es order)

less_subsets : (x y : SubsetEntry) → entry_cmp x y ≡ Less → x.subset ≤ y.subset
less_subsets x y h = grind (arith, nat_tests, h)

-- the subsets of entries in order rise
pub subsets_rise : (es : List SubsetEntry) → AreRising es → IsNonDecreasingBy (λ e. e.subset) es
subsets_rise es order i j d le lt = elim (cases_order i j) [
  | inl same ↦ omega (arith, ap (λ n. (get_or es n d).subset) same)
  | inr (inl under) ↦ less_subsets (get_or es i d) (get_or es j d) (rises es i j d order under lt)
  | inr (inr over) ↦ absurd (omega arith)
]

pub rising_left : (p : SubsetEntry → Bool) (es : List SubsetEntry) → AreRising es → AreRising (filter p es)
rising_left p [] order = tt
rising_left p (e ∷ es) order =
    elim (p e) as (λ b. AreRising (cond b (e ∷ filter p es) (filter p es))) [
      | true ↦ (all_left (λ x. entry_cmp e x ≡ Less) p es order.0, rising_left p es order.1)
      | false ↦ rising_left p es order.1
    ]

-- an entry in its place among entries that are before it and behind it
placed_at : (k : SubsetEntry) (i : ℕ) (es : List SubsetEntry) → i ≤ length es → ((j : ℕ) (d : SubsetEntry) → j < i → entry_cmp (get_or es j d) k ≡ Less)
    → ((j : ℕ) (d : SubsetEntry) → i ≤ j → j < length es → entry_cmp (get_or es j d) k ≡ Greater) → place_in entry_before k es ≡ insert es i k
placed_at k zero [] le before behind = refl
placed_at k zero (e ∷ es) le before behind = ap (λ o. cond (is_lt o) (k ∷ e ∷ es) (e ∷ place_in entry_before k es)) (turned e k Greater (behind 0 e (omega arith) (omega arith)))
placed_at k (suc i) [] le before behind = absurd (omega arith)
placed_at k (suc i) (e ∷ es) le before behind =
    ap (λ o. cond (is_lt o) (k ∷ e ∷ es) (e ∷ place_in entry_before k es)) (turned e k Less (before 0 e (omega arith)))
    ∙ ap (λ (xs : List SubsetEntry). e ∷ xs) (placed_at k i es (omega arith) (λ j d lt. before (suc j) d (omega arith)) (λ j d from lt. behind (suc j) d (omega arith) (omega arith)))

placed_first : (k : SubsetEntry) (es : List SubsetEntry) → AllByRecursion (λ x. entry_cmp k x ≡ Less) es → place_in entry_before k es ≡ k ∷ es
placed_first k [] all = refl
placed_first k (e ∷ es) all = ap (λ o. cond (is_lt o) (k ∷ e ∷ es) (e ∷ place_in entry_before k es)) all.0

no_tie : (k : SubsetEntry) (es : List SubsetEntry) → AllByRecursion (λ x. entry_cmp k x ≡ Less) es → AllByRecursion (λ x. is_eq (entry_cmp x k) ≡ false) es
no_tie k es all = all_more (λ x. entry_cmp k x ≡ Less) (λ x. is_eq (entry_cmp x k) ≡ false) es (λ x less. ap is_eq (turned k x Less less)) all

-- all that is behind an entry is behind one that is before it
behind_all : (k e : SubsetEntry) (es : List SubsetEntry) → entry_cmp k e ≡ Less → AllByRecursion (λ x. entry_cmp e x ≡ Less) es → AllByRecursion (λ x. entry_cmp k x ≡ Less) es
behind_all k e es less all = all_more (λ x. entry_cmp e x ≡ Less) (λ x. entry_cmp k x ≡ Less) es (λ x more. entries_total.trans k e x less more) all

-- a test that holds of no entry leaves each
pub kept_all : (p : SubsetEntry → Bool) (es : List SubsetEntry) → list_any p es ≡ false → filter (λ e. not (p e)) es ≡ es
kept_all p [] off = refl
kept_all p (e ∷ es) off =
    let parts = or_parts (p e) (list_any p es) off in
    ap (λ b. cond (not b) (e ∷ filter (λ x. not (p x)) es) (filter (λ x. not (p x)) es)) parts.0 ∙ ap (λ (xs : List SubsetEntry). e ∷ xs) (kept_all p es parts.1)

kept : (p : SubsetEntry → Bool) (e : SubsetEntry) (es : List SubsetEntry) → p e ≡ false → filter (λ x. not (p x)) (e ∷ es) ≡ e ∷ filter (λ x. not (p x)) es
kept p e es off = ap (λ b. cond (not b) (e ∷ filter (λ x. not (p x)) es) (filter (λ x. not (p x)) es)) off

gone : (p : SubsetEntry → Bool) (e : SubsetEntry) (es : List SubsetEntry) → p e ≡ true → filter (λ x. not (p x)) (e ∷ es) ≡ filter (λ x. not (p x)) es
gone p e es on = ap (λ b. cond (not b) (e ∷ filter (λ x. not (p x)) es) (filter (λ x. not (p x)) es)) on

goes_on : (k e : SubsetEntry) (es : List SubsetEntry) → entry_cmp e k ≡ Less → place_in entry_before k (e ∷ es) ≡ e ∷ place_in entry_before k es
goes_on k e es less = ap (λ o. cond (is_lt o) (k ∷ e ∷ es) (e ∷ place_in entry_before k es)) (turned e k Less less)

module _ (subset owner number : ℕ) where
  -- an entry is named where it ties with this one
  named_is : (e : SubsetEntry) → names subset owner number e ≡ is_eq (entry_cmp e (entry_of subset owner number))
  named_is e =
      (λ i. (eq_nat e.subset subset i && eq_nat e.owner owner i) && eq_nat e.number number i)
      ∙ three (nat_cmp e.subset subset) (nat_cmp e.owner owner) (nat_cmp e.number number)

  off_by : (e : SubsetEntry) (o : Ordering) → entry_cmp e (entry_of subset owner number) ≡ o → is_eq o ≡ false → names subset owner number e ≡ false
  off_by e o is off = named_is e ∙ ap is_eq is ∙ off

  itself : names subset owner number (entry_of subset owner number) ≡ true
  itself = named_is (entry_of subset owner number) ∙ ap is_eq (tied (entry_of subset owner number))

  none_named : (es : List SubsetEntry) → AllByRecursion (λ x. is_eq (entry_cmp x (entry_of subset owner number)) ≡ false) es → stands subset owner number es ≡ false
  none_named es all =
      none_any (names subset owner number) es
      (all_more (λ x. is_eq (entry_cmp x (entry_of subset owner number)) ≡ false) (λ x. names subset owner number x ≡ false) es (λ x off. named_is x ∙ off) all)

  -- what halving finds
  pub found : (es : List SubsetEntry) (r : Result ℕ ℕ) → AreRising es → IsSearchInRange r (length es) → IsBinarySearchResult (λ e. entry_cmp e (entry_of subset owner number)) es r → IsEntryAt subset owner number es r
  found es (Ok i) order lt tie =
      let k = entry_of subset owner number in
      list_any_at (names subset owner number) es i k lt (named_is (get_or es i k) ∙ ap is_eq (tie k))
  found es (Err i) order le parted =
      let k = entry_of subset owner number in
      let halves = parted (searchable es k order) in
      let before : (j : ℕ) (d : SubsetEntry) → j < i → entry_cmp (get_or es j d) k ≡ Less = λ j d lt. halves.0 j d (omega arith) lt in
      let behind : (j : ℕ) (d : SubsetEntry) → i ≤ j → j < length es → entry_cmp (get_or es j d) k ≡ Greater = λ j d from lt. halves.1 j d from lt in (
        le,
        list_any_none (names subset owner number) es (λ j d lt. elim (cases_lt j i) [
          | inl under ↦ off_by (get_or es j d) Less (before j d under) refl
          | inr over ↦ off_by (get_or es j d) Greater (behind j d over lt) refl
        ]),
        placed_at k i es le before behind,
      )

  -- an entry that didn't stand is put among entries in order, and they stay so
  rising_turn : (e : SubsetEntry) (es : List SubsetEntry) (o : Ordering) → entry_cmp e (entry_of subset owner number) ≡ o → names subset owner number e ≡ false → AreRising (e ∷ es)
      → AreRising (place_in entry_before (entry_of subset owner number) es) → AreRising (place_in entry_before (entry_of subset owner number) (e ∷ es))
  rising_turn e es Less is off order rest = subst AreRising (sym (goes_on (entry_of subset owner number) e es is)) (all_with (λ x. entry_cmp e x ≡ Less) (entry_of subset owner number) es is order.0, rest)
  rising_turn e es Equal is off order rest = absurd (let on : names subset owner number e ≡ true = named_is e ∙ ap is_eq is in cc)
  rising_turn e es Greater is off order rest =
      let k = entry_of subset owner number in
      let less = turned e k Greater is in
      let all : AllByRecursion (λ x. entry_cmp k x ≡ Less) (e ∷ es) = (less, behind_all k e es less order.0) in
      subst AreRising (sym (placed_first k (e ∷ es) all)) (all, order)

  pub rising_with : (es : List SubsetEntry) → AreRising es → stands subset owner number es ≡ false → AreRising (place_in entry_before (entry_of subset owner number) es)
  rising_with [] order off = (tt, tt)
  rising_with (e ∷ es) order off =
      let parts = or_parts (names subset owner number e) (stands subset owner number es) off in
      rising_turn e es (entry_cmp e (entry_of subset owner number)) refl parts.0 order (rising_with es order.1 parts.1)

  -- an entry that was made and taken out again
  made_turn : (e : SubsetEntry) (es : List SubsetEntry) (o : Ordering) → entry_cmp (entry_of subset owner number) e ≡ o → names subset owner number e ≡ false → stands subset owner number es ≡ false
      → without_entry subset owner number (place_in entry_before (entry_of subset owner number) es) ≡ es
      → without_entry subset owner number (cond (is_lt o) (entry_of subset owner number ∷ e ∷ es) (e ∷ place_in entry_before (entry_of subset owner number) es)) ≡ e ∷ es
  made_turn e es Less is off none rest = gone (names subset owner number) (entry_of subset owner number) (e ∷ es) itself ∙ kept (names subset owner number) e es off ∙ ap (λ (xs : List SubsetEntry). e ∷ xs) (kept_all (names subset owner number) es none)
  made_turn e es Equal is off none rest = kept (names subset owner number) e (place_in entry_before (entry_of subset owner number) es) off ∙ ap (λ (xs : List SubsetEntry). e ∷ xs) rest
  made_turn e es Greater is off none rest = kept (names subset owner number) e (place_in entry_before (entry_of subset owner number) es) off ∙ ap (λ (xs : List SubsetEntry). e ∷ xs) rest

  pub made_back : (es : List SubsetEntry) → stands subset owner number es ≡ false → without_entry subset owner number (place_in entry_before (entry_of subset owner number) es) ≡ es
  made_back [] off = gone (names subset owner number) (entry_of subset owner number) [] itself
  made_back (e ∷ es) off =
      let parts = or_parts (names subset owner number e) (stands subset owner number es) off in
      made_turn e es (entry_cmp (entry_of subset owner number) e) refl parts.0 parts.1 (made_back es parts.1)

  -- an entry that was taken out and made again
  taken_turn : (e : SubsetEntry) (es : List SubsetEntry) (o : Ordering) → entry_cmp e (entry_of subset owner number) ≡ o → AreRising (e ∷ es) → stands subset owner number (e ∷ es) ≡ true
      → (stands subset owner number es ≡ true → place_in entry_before (entry_of subset owner number) (without_entry subset owner number es) ≡ es)
      → place_in entry_before (entry_of subset owner number) (without_entry subset owner number (e ∷ es)) ≡ e ∷ es
  taken_turn e es Less is order on rest =
      let k = entry_of subset owner number in
      let off = off_by e Less is refl in
      let later : stands subset owner number es ≡ true = ap (λ b. b || stands subset owner number es) (sym off) ∙ on in
      ap (place_in entry_before k) (kept (names subset owner number) e es off) ∙ goes_on k e (without_entry subset owner number es) is ∙ ap (λ (xs : List SubsetEntry). e ∷ xs) (rest later)
  taken_turn e es Equal is order on rest =
      let k = entry_of subset owner number in
      let same : e ≡ k = entries_same e k is in
      let all : AllByRecursion (λ x. entry_cmp k x ≡ Less) es = subst (λ x. AllByRecursion (λ y. entry_cmp x y ≡ Less) es) same order.0 in
      ap (place_in entry_before k) (gone (names subset owner number) e es (named_is e ∙ ap is_eq is) ∙ kept_all (names subset owner number) es (none_named es (no_tie k es all)))
      ∙ placed_first k es all ∙ ap (λ (x : SubsetEntry). x ∷ es) (sym same)
  taken_turn e es Greater is order on rest =
      let k = entry_of subset owner number in
      let less = turned e k Greater is in
      let none : stands subset owner number (e ∷ es) ≡ false = none_named (e ∷ es) (no_tie k (e ∷ es) (less, behind_all k e es less order.0)) in
      absurd (cc)

  pub taken_back : (es : List SubsetEntry) → AreRising es → stands subset owner number es ≡ true → place_in entry_before (entry_of subset owner number) (without_entry subset owner number es) ≡ es
  taken_back [] order on = absurd (cc)
  taken_back (e ∷ es) order on = taken_turn e es (entry_cmp e (entry_of subset owner number)) refl order on (taken_back es order.1)

  -- an entry that was taken out stands no more
  pub left : (es : List SubsetEntry) → stands subset owner number (without_entry subset owner number es) ≡ false
  left es = any-filter_same (names subset owner number) (is_not_entry subset owner number) false (λ e on. ap not on) es

-- the newest move is taken back first
pub moves_push : (ms : List EntryMove) (m : EntryMove) (es : List SubsetEntry) → before_moves (ms ++ m ∷ []) es ≡ before_moves ms (moved_back m es)
moves_push [] m es = refl
moves_push (w ∷ ms) m es = ap (moved_back w) (moves_push ms m es)

-- an entry made now is no longer there at the mark
pub mark_made : (ms : List EntryMove) (subset owner number : ℕ) (es : List SubsetEntry) → stands subset owner number es ≡ false
    → before_moves (ms ++ record { subset = subset; owner = owner; number = number; entered = true } ∷ []) (place_in entry_before (entry_of subset owner number) es) ≡ before_moves ms es
mark_made ms subset owner number es off =
    moves_push ms (record { subset = subset; owner = owner; number = number; entered = true }) (place_in entry_before (entry_of subset owner number) es)
    ∙ ap (before_moves ms) (made_back subset owner number es off)

-- and one taken out now is
pub mark_taken : (ms : List EntryMove) (subset owner number : ℕ) (es : List SubsetEntry) → AreRising es → stands subset owner number es ≡ true
    → before_moves (ms ++ record { subset = subset; owner = owner; number = number; entered = false } ∷ []) (without_entry subset owner number es) ≡ before_moves ms es
mark_taken ms subset owner number es order on =
    moves_push ms (record { subset = subset; owner = owner; number = number; entered = false }) (without_entry subset owner number es)
    ∙ ap (before_moves ms)
    (ap (λ b. cond b (without_entry subset owner number es) (place_in entry_before (entry_of subset owner number) (without_entry subset owner number es))) (left subset owner number es)
    ∙ taken_back subset owner number es order on)
