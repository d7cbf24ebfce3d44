-- The first and the last that pass in a sorted list are the least and the greatest that pass.
use Rattle.std.proofs.Common.{◌≡◌, List, [], ◌∷◌, Bool, true, false, cond, Some, None, refl, sym, ap, ◌∙◌}
use Rattle.std.specs.declared.option.Option.{Option}
use Rattle.dms_desc.specs.Sorted.{place_in, sort, first, last, or_else, NoneLess, InOrder, InOrder-sorted}
use Rattle.dms_plain.specs.Scans.{lesser, least, greater, greatest}

module _ {A : Type 0} (less : A → A → Bool)
    (through : (x y z : A) → less x y ≡ true → less z y ≡ false → less x z ≡ true)
    (one_way : (x y : A) → less x y ≡ true → less y x ≡ false) where
  module _ (p : A → Bool) where
    -- the first that passes
    before_first : (x y : A) (ys : List A) → less x y ≡ true → NoneLess less y ys → lesser less x (first p ys) ≡ Some x
    before_first x y [] h none = refl
    before_first x y (z ∷ zs) h none =
        elim (p z) as (λ b. lesser less x (cond b (Some z) (first p zs)) ≡ Some x) [
          | true ↦ rw (through x y z h none.0) refl
          | false ↦ before_first x y zs h none.1
        ]

    goes_first : (x y : A) (ys : List A) → less x y ≡ true → NoneLess less y ys → first p (x ∷ y ∷ ys) ≡ cond (p x) (lesser less x (first p (y ∷ ys))) (first p (y ∷ ys))
    goes_first x y ys h none =
        elim (p x) as (λ a. cond a (Some x) (cond (p y) (Some y) (first p ys)) ≡ cond a (lesser less x (cond (p y) (Some y) (first p ys))) (cond (p y) (Some y) (first p ys))) [
          | true ↦ elim (p y) as (λ b. Some x ≡ lesser less x (cond b (Some y) (first p ys))) [ true ↦ rw h refl | false ↦ sym (before_first x y ys h none) ]
          | false ↦ refl
        ]

    goes_later : (x y : A) (ys : List A) → less x y ≡ false → first p (place_in less x ys) ≡ cond (p x) (lesser less x (first p ys)) (first p ys)
        → first p (y ∷ place_in less x ys) ≡ cond (p x) (lesser less x (first p (y ∷ ys))) (first p (y ∷ ys))
    goes_later x y ys h later =
        elim (p y) as (λ b. cond b (Some y) (first p (place_in less x ys)) ≡ cond (p x) (lesser less x (cond b (Some y) (first p ys))) (cond b (Some y) (first p ys))) [
          | true ↦ elim (p x) as (λ a. Some y ≡ cond a (lesser less x (Some y)) (Some y)) [ true ↦ rw h refl | false ↦ refl ]
          | false ↦ later
        ]

    by_test : (t : Bool) (x y : A) (ys : List A) → less x y ≡ t → NoneLess less y ys → first p (place_in less x ys) ≡ cond (p x) (lesser less x (first p ys)) (first p ys)
        → first p (cond t (x ∷ y ∷ ys) (y ∷ place_in less x ys)) ≡ cond (p x) (lesser less x (first p (y ∷ ys))) (first p (y ∷ ys))
    by_test true x y ys h none later = goes_first x y ys h none
    by_test false x y ys h none later = goes_later x y ys h later

    first-place_in : (x : A) (ys : List A) → InOrder less ys → first p (place_in less x ys) ≡ cond (p x) (lesser less x (first p ys)) (first p ys)
    first-place_in x [] order = refl
    first-place_in x (y ∷ ys) order = by_test (less x y) x y ys refl order.0 (first-place_in x ys order.1)

    -- the first that passes in a sorted list is the least that passes
    pub first-sorted : (xs : List A) → first p (sort less xs) ≡ least less p xs
    first-sorted [] = refl
    first-sorted (x ∷ xs) =
        first-place_in x (sort less xs) (InOrder-sorted less through one_way xs) ∙ ap (λ (o : Option A). cond (p x) (lesser less x o) o) (first-sorted xs)

    or_none : (o : Option A) → or_else o None ≡ o
    or_none None = refl
    or_none (Some z) = refl

    some_stays : (t b : Bool) (x y z : A) → or_else (cond t (Some z) (Some x)) (cond b (Some y) None) ≡ cond t (Some z) (Some x)
    some_stays true b x y z = refl
    some_stays false b x y z = refl

    irreflexive : (t : Bool) (y : A) → less y y ≡ t → less y y ≡ false
    irreflexive true y h = one_way y y h
    irreflexive false y h = h

    one_side : (y : A) → less y y ≡ false
    one_side y = irreflexive (less y y) y refl

    behind_one : (o : Option A) (b : Bool) (x y z : A) → less x y ≡ true → less z y ≡ false → or_else o (Some x) ≡ greater less x o
        → or_else (or_else o (cond b (Some z) None)) (Some x) ≡ greater less x (or_else o (cond b (Some z) None))
    behind_one None true x y z h none is = rw (through x y z h none) refl
    behind_one None false x y z h none is = refl
    behind_one (Some w) b x y z h none is = is

    -- the last that passes
    behind_last : (x y : A) (ys : List A) → less x y ≡ true → NoneLess less y ys → or_else (last p ys) (Some x) ≡ greater less x (last p ys)
    behind_last x y [] h none = refl
    behind_last x y (z ∷ zs) h none =
        behind_one (last p zs) (p z) x y z h none.0 (behind_last x y zs h none.1)

    last_turn : (x y : A) (ys : List A) → less x y ≡ true → NoneLess less y ys → last p (x ∷ y ∷ ys) ≡ cond (p x) (greater less x (last p (y ∷ ys))) (last p (y ∷ ys))
    last_turn x y ys h none =
        elim (p x) as (λ a. or_else (last p (y ∷ ys)) (cond a (Some x) None) ≡ cond a (greater less x (last p (y ∷ ys))) (last p (y ∷ ys))) [
          | true ↦ behind_one (last p ys) (p y) x y y h (one_side y) (behind_last x y ys h none)
          | false ↦ or_none (last p (y ∷ ys))
        ]

    last_later : (o q : Option A) (a b : Bool) (x y : A) → less x y ≡ false → q ≡ cond a (greater less x o) o → or_else q (cond b (Some y) None) ≡ cond a (greater less x (or_else o (cond b (Some y) None))) (or_else o (cond b (Some y) None))
    last_later o q false b x y h is = ap (λ (r : Option A). or_else r (cond b (Some y) None)) is
    last_later None q true true x y h is = ap (λ (r : Option A). or_else r (Some y)) is ∙ rw h refl
    last_later None q true false x y h is = ap (λ (r : Option A). or_else r None) is
    last_later (Some z) q true b x y h is = ap (λ (r : Option A). or_else r (cond b (Some y) None)) is ∙ some_stays (less x z) b x y z

    last_by_test : (t : Bool) (x y : A) (ys : List A) → less x y ≡ t → NoneLess less y ys → last p (place_in less x ys) ≡ cond (p x) (greater less x (last p ys)) (last p ys)
        → last p (cond t (x ∷ y ∷ ys) (y ∷ place_in less x ys)) ≡ cond (p x) (greater less x (last p (y ∷ ys))) (last p (y ∷ ys))
    last_by_test true x y ys h none later = last_turn x y ys h none
    last_by_test false x y ys h none later = last_later (last p ys) (last p (place_in less x ys)) (p x) (p y) x y h later

    last-place_in : (x : A) (ys : List A) → InOrder less ys → last p (place_in less x ys) ≡ cond (p x) (greater less x (last p ys)) (last p ys)
    last-place_in x [] order = refl
    last-place_in x (y ∷ ys) order = last_by_test (less x y) x y ys refl order.0 (last-place_in x ys order.1)

    -- the last that passes in a sorted list is the greatest that passes
    pub last-sorted : (xs : List A) → last p (sort less xs) ≡ greatest less p xs
    last-sorted [] = refl
    last-sorted (x ∷ xs) =
        last-place_in x (sort less xs) (InOrder-sorted less through one_way xs) ∙ ap (λ (o : Option A). cond (p x) (greater less x o) o) (last-sorted xs)
