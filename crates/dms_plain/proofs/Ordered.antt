-- Lists that strictly rise by a total order: halving, one more, and one less.
use Rattle.std.proofs.Common.{◌≡◌, ◌+◌, ◌<◌, ◌≤◌, ℕ, zero, suc, List, [], ◌∷◌, Bool, true, false, refl, sym, ap, ◌∙◌, arith, length, get_or}
use Rattle.std.specs.Prelude.{not, insert, ◌&&◌, ◌||◌}
use Rattle.std.specs.List.{AllByRecursion, list_any, remove}
use Rattle.std.specs.List.Sorted.{IsNonDecreasingBy, IsSortedBy, IsStrictlySortedBy}
use Rattle.std.specs.Cmp.{IsTotalOrder}
use Rattle.std.specs.Ordering.{is_eq, is_lt, ordering_index, ordering_reverse}
use Rattle.std.specs.declared.cmp.Ordering.{Ordering}
use Rattle.std.specs.declared.cmp.Ordering.TheVariants.{Less, Equal, Greater}
use Rattle.std.proofs.lemmas.Cmp.{alike_right}
use Rattle.std.proofs.lemmas.List.Folds.{list_any_at}
use Rattle.std.proofs.lemmas.List.Sorted.{searchable_from_sorted}
use Rattle.std.proofs.lemmas.Map.Keys.{Less-from_sorted}

or_swap : (a b c : Bool) → (a || (b || c)) ≡ (b || (a || c))
or_swap true true c = refl
or_swap true false c = refl
or_swap false b c = refl

pub true_or : (b : Bool) → b ≡ true → (c : Bool) → (b || c) ≡ true
true_or true h c = refl
true_or false h c = absurd (cc)

-- two tests that imply each other
pub same_tests : (a b : Bool) → (a ≡ true → b ≡ true) → (b ≡ true → a ≡ true) → a ≡ b
same_tests true b f g = sym (f refl)
same_tests false true f g = g refl
same_tests false false f g = refl

pub any_insert : {K : Type 0} (p : K → Bool) (k : K) (i : ℕ) (xs : List K) → i ≤ length xs → list_any p (insert xs i k) ≡ (p k || list_any p xs)
any_insert p k zero [] le = refl
any_insert p k zero (x ∷ xs) le = refl
any_insert p k (suc i) [] le = absurd (omega arith)
any_insert p k (suc i) (x ∷ xs) le = ap (λ b. p x || b) (any_insert p k i xs (omega arith)) ∙ or_swap (p x) (p k) (list_any p xs)

all_from : {K : Type 0} (P : K → Type 0) (xs : List K) → ((j : ℕ) (d : K) → j < length xs → P (get_or xs j d)) → AllByRecursion P xs
all_from P [] h = tt
all_from P (x ∷ xs) h = (h 0 x (omega arith), all_from P xs (λ j d lt. h (suc j) d (omega arith)))

all_insert : {K : Type 0} (P : K → Type 0) (k : K) (i : ℕ) (xs : List K) → i ≤ length xs → P k → AllByRecursion P xs → AllByRecursion P (insert xs i k)
all_insert P k zero [] le h all = (h, tt)
all_insert P k zero (x ∷ xs) le h all = (h, all)
all_insert P k (suc i) [] le h all = absurd (omega arith)
all_insert P k (suc i) (x ∷ xs) le h all = (all.0, all_insert P k i xs (omega arith) h all.1)

all_remove : {K : Type 0} (P : K → Type 0) (i : ℕ) (xs : List K) → AllByRecursion P xs → AllByRecursion P (remove xs i)
all_remove P zero [] all = tt
all_remove P zero (x ∷ xs) all = all.1
all_remove P (suc i) [] all = tt
all_remove P (suc i) (x ∷ xs) all = (all.0, all_remove P i xs all.1)

module _ {K : Type 0} {R : K → K → Ordering} (o : IsTotalOrder R) where
  -- an element that ties with this one is in the list
  abbrev pub stands : K → List K → Bool
  stands x xs = list_any (λ m. is_eq (R m x)) xs

  pub turned : (x y : K) (r : Ordering) → R x y ≡ r → R y x ≡ ordering_reverse r
  turned x y r h = o.antisymm y x ∙ ap ordering_reverse h

  sorted : (xs : List K) → IsStrictlySortedBy R xs → IsSortedBy (λ a b. is_lt (R a b)) xs
  sorted xs order k d from lt = ap is_lt (turned (get_or xs k d) (get_or xs (k + 1) d) Less (Less-from_sorted R xs k (k + 1) d order (omega arith) lt))

  pub searchable : (xs : List K) (k : K) → IsStrictlySortedBy R xs → IsNonDecreasingBy (λ e. ordering_index (R e k)) xs
  searchable xs k order = searchable_from_sorted o (λ (e : K). e) xs k (sorted xs order)

  pub rising_insert : (k : K) (i : ℕ) (xs : List K) → i ≤ length xs → ((j : ℕ) (d : K) → j < i → R (get_or xs j d) k ≡ Less)
      → ((j : ℕ) (d : K) → i ≤ j → j < length xs → R (get_or xs j d) k ≡ Greater) → IsStrictlySortedBy R xs → IsStrictlySortedBy R (insert xs i k)
  unfolding IsStrictlySortedBy
  rising_insert k zero [] le before behind order = (tt, tt)
  rising_insert k zero (x ∷ xs) le before behind order =
      (all_from (λ y. R k y ≡ Less) (x ∷ xs) (λ j d lt. turned (get_or (x ∷ xs) j d) k Greater (behind j d (omega arith) lt)), order)
  rising_insert k (suc i) [] le before behind order = absurd (omega arith)
  rising_insert k (suc i) (x ∷ xs) le before behind order = (
    all_insert (λ y. R x y ≡ Less) k i xs (omega arith) (before 0 x (omega arith)) order.0,
    rising_insert k i xs (omega arith) (λ j d lt. before (suc j) d (omega arith)) (λ j d from lt. behind (suc j) d (omega arith) (omega arith)) order.1,
  )

  pub rising_remove : (i : ℕ) (xs : List K) → IsStrictlySortedBy R xs → IsStrictlySortedBy R (remove xs i)
  unfolding IsStrictlySortedBy
  rising_remove zero [] order = tt
  rising_remove zero (x ∷ xs) order = order.1
  rising_remove (suc i) [] order = tt
  rising_remove (suc i) (x ∷ xs) order = (all_remove (λ y. R x y ≡ Less) i xs order.0, rising_remove i xs order.1)

  -- one more that is there already
  pub stood : (k x : K) (i : ℕ) (xs : List K) → i < length xs → ((d : K) → R (get_or xs i d) k ≡ Equal) → stands x xs ≡ (is_eq (R k x) || stands x xs)
  stood k x i xs lt tie = by (is_eq (R k x)) refl
    where
      by : (b : Bool) → is_eq (R k x) ≡ b → stands x xs ≡ (b || stands x xs)
      by true is = list_any_at (λ m. is_eq (R m x)) xs i k lt (ap is_eq (o.congr (get_or xs i k) k x (tie k)) ∙ is)
      by false is = refl

  tied_of : (r : Ordering) → is_eq r ≡ true → r ≡ Equal
  tied_of Less h = absurd (cc)
  tied_of Equal h = refl
  tied_of Greater h = absurd (cc)

  -- what is behind an element doesn't tie with what ties with that one
  none_behind : (y x : K) (xs : List K) → R y x ≡ Equal → AllByRecursion (λ z. R y z ≡ Less) xs → stands x xs ≡ false
  none_behind y x [] tie all = refl
  none_behind y x (z ∷ zs) tie all =
      let here : R z x ≡ Greater = sym (alike_right o y x z tie) ∙ turned y z Less all.0 in
      λ i. is_eq (here i) || none_behind y x zs tie all.1 i

  all_at : (P : K → Type 0) (xs : List K) (j : ℕ) (d : K) → AllByRecursion P xs → j < length xs → P (get_or xs j d)
  all_at P [] j d all lt = absurd (omega arith)
  all_at P (x ∷ xs) zero d all lt = all.0
  all_at P (x ∷ xs) (suc j) d all lt = all_at P xs j d all.1 (omega arith)

  pub gone : (k x : K) (i : ℕ) (xs : List K) → IsStrictlySortedBy R xs → i < length xs → ((d : K) → R (get_or xs i d) k ≡ Equal) → stands x (remove xs i) ≡ (not (is_eq (R k x)) && stands x xs)
  unfolding IsStrictlySortedBy
  gone k x i [] order lt tie = absurd (omega arith)
  gone k x zero (y ∷ ys) order lt tie = by (is_eq (R k x)) refl
    where
      by : (b : Bool) → is_eq (R k x) ≡ b → stands x ys ≡ (not b && (is_eq (R y x) || stands x ys))
      by true is = none_behind y x ys (o.congr y k x (tie y) ∙ tied_of (R k x) is) order.0
      by false is = ap (λ b. b || stands x ys) (sym (ap is_eq (o.congr y k x (tie y)) ∙ is))
  gone k x (suc i) (y ∷ ys) order lt tie = by (is_eq (R y x)) refl (gone k x i ys order.1 (omega arith) tie)
    where
      before : R y k ≡ Less
      before = sym (alike_right o (get_or ys i y) k y (tie y)) ∙ all_at (λ z. R y z ≡ Less) ys i y order.0 (omega arith)

      by : (b : Bool) → is_eq (R y x) ≡ b → stands x (remove ys i) ≡ (not (is_eq (R k x)) && stands x ys) → (b || stands x (remove ys i)) ≡ (not (is_eq (R k x)) && (b || stands x ys))
      by true is rest =
          let more : R k x ≡ Greater = sym (alike_right o y x k (tied_of (R y x) is)) ∙ turned y k Less before in
          sym (ap (λ r. not (is_eq r) && true) more)
      by false is rest = rest
