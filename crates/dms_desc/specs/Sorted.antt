-- Lists sorted by a test: in order, and of which the first that passes one test is the first that passes a wider one.
use Rattle.std.specs.Prelude.{if◌then◌else◌}
use Rattle.std.proofs.Common.{◌≡◌, List, [], ◌∷◌, Bool, true, false, cond, Some, None, refl, sym, ◌∙◌}
use Rattle.std.specs.declared.option.Option.{Option}

-- the first that passes a test
abbrev pub first : {A : Type 0} → (A → Bool) → List A → Option A
first p [] = None
first p (x ∷ xs) = if p x then Some x else first p xs

abbrev pub or_else : {A : Type 0} → Option A → Option A → Option A
or_else None b = b
or_else (Some x) b = Some x

-- the last that passes a test
abbrev pub last : {A : Type 0} → (A → Bool) → List A → Option A
last p [] = None
last p (x ∷ xs) = or_else (last p xs) (if p x then Some x else None)

-- a value that passes a test, and else none
abbrev pub that_passes : {A : Type 0} → (A → Bool) → Option A → Option A
that_passes p None = None
that_passes p (Some x) = cond (p x) (Some x) None

module _ {A : Type 0} (less : A → A → Bool) where
  -- a value put before the first that it is less than
  abbrev pub place_in : A → List A → List A
  place_in x [] = x ∷ []
  place_in x (y ∷ ys) = if less x y then x ∷ y ∷ ys else y ∷ place_in x ys

  -- a list in the order of the test
  abbrev pub sort : List A → List A
  sort [] = []
  sort (x ∷ xs) = place_in x (sort xs)

module _ {A : Type 0} (less : A → A → Bool) where
  -- no member of a list is less than x
  abbrev pub NoneLess : A → List A → Type 0
  NoneLess x [] = Unit {0}
  NoneLess x (y ∷ ys) = (less y x ≡ false) × NoneLess x ys

  -- no member is less than one before it
  abbrev pub InOrder : List A → Type 0
  InOrder [] = Unit {0}
  InOrder (x ∷ xs) = NoneLess x xs × InOrder xs

  module _ (through : (x y z : A) → less x y ≡ true → less z y ≡ false → less x z ≡ true)
      (one_way : (x y : A) → less x y ≡ true → less y x ≡ false) where
    -- what is not less than y is not less than an x that is less than y
    none_less_still : (x y : A) (zs : List A) → less x y ≡ true → NoneLess y zs → NoneLess x zs
    none_less_still x y [] h none = tt
    none_less_still x y (z ∷ zs) h none = (one_way x z (through x y z h none.0), none_less_still x y zs h none.1)

    none_less_put : (y x : A) (ys : List A) → less x y ≡ false → NoneLess y ys → NoneLess y (place_in less x ys)
    none_less_put y x [] h none = (h, tt)
    none_less_put y x (z ∷ zs) h none =
        elim (less x z) as (λ b. NoneLess y (cond b (x ∷ z ∷ zs) (z ∷ place_in less x zs))) [
          | true ↦ (h, none)
          | false ↦ (none.0, none_less_put y x zs h none.1)
        ]

    in_order_put : (t : Bool) (x y : A) (ys : List A) → less x y ≡ t → NoneLess y ys → InOrder ys → InOrder (place_in less x ys) → InOrder (cond t (x ∷ y ∷ ys) (y ∷ place_in less x ys))
    in_order_put true x y ys h none order later = ((one_way x y h, none_less_still x y ys h none), (none, order))
    in_order_put false x y ys h none order later = (none_less_put y x ys h none, later)

    pub InOrder-place_in : (x : A) (ys : List A) → InOrder ys → InOrder (place_in less x ys)
    InOrder-place_in x [] order = (tt, tt)
    InOrder-place_in x (y ∷ ys) order = in_order_put (less x y) x y ys refl order.0 order.1 (InOrder-place_in x ys order.1)

    -- a sorted list is in order
    pub InOrder-sorted : (xs : List A) → InOrder (sort less xs)
    InOrder-sorted [] = tt
    InOrder-sorted (x ∷ xs) = InOrder-place_in x (sort less xs) (InOrder-sorted xs)

  -- What passes the narrow test passes the wide one, and behind a member that passes the wide test alone none passes the narrow one.
  module _ (wide narrow : A → Bool) (within : (x : A) → narrow x ≡ true → wide x ≡ true)
      (gone : (x y : A) → wide x ≡ true → narrow x ≡ false → less y x ≡ false → narrow y ≡ false) where
    none_passes : (x : A) (ys : List A) → wide x ≡ true → narrow x ≡ false → NoneLess x ys → first narrow ys ≡ None
    none_passes x [] w n none = refl
    none_passes x (y ∷ ys) w n none = rw (gone x y w n none.0) (none_passes x ys w n none.1)

    turn : (w n : Bool) (x : A) (xs : List A) → wide x ≡ w → narrow x ≡ n → NoneLess x xs → first narrow xs ≡ that_passes narrow (first wide xs)
        → cond n (Some x) (first narrow xs) ≡ that_passes narrow (cond w (Some x) (first wide xs))
    turn true true x xs w n none rest = rw n refl
    turn true false x xs w n none rest = none_passes x xs w n none ∙ sym (rw n refl)
    turn false true x xs w n none rest = absurd (cc (within x n, w))
    turn false false x xs w n none rest = rest

    -- the first that passes the narrow test is the first that passes the wide one, where that one passes both
    pub first_narrow : (xs : List A) → InOrder xs → first narrow xs ≡ that_passes narrow (first wide xs)
    first_narrow [] order = refl
    first_narrow (x ∷ xs) order = turn (wide x) (narrow x) x xs refl refl order.0 (first_narrow xs order.1)
