-- Lists up to the first of a kind.
use Rattle.std.specs.Prelude.{◌||◌}
use Rattle.std.proofs.Common.{◌≡◌, Bool, true, false, cond, List, [], ◌∷◌, ◌++◌, refl, sym, ◌∙◌, ap}
use Rattle.std.proofs.lemmas.Bool.{true≢false}
use Rattle.dms_history.specs.Lists.{has, until_first}

pub cannot : {P : Type 0} → true ≡ false → P
cannot is = absurd (true≢false is)

pub right_true : (b c : Bool) → c ≡ true → b || c ≡ true
right_true true c on = refl
right_true false c on = on

pub both_false : (b c : Bool) → b || c ≡ false → (b ≡ false) × (c ≡ false)
both_false true c off = cannot off
both_false false c off = (refl, off)

module _ {A : Type 0} where
  pub has_front : (p : A → Bool) (xs ys : List A) → has p xs ≡ true → has p (xs ++ ys) ≡ true
  has_front p [] ys found = cannot (sym found)
  has_front p (x ∷ xs) ys found = go (p x) found (λ more. has_front p xs ys more)
    where
      go : (b : Bool) → b || has p xs ≡ true → (has p xs ≡ true → has p (xs ++ ys) ≡ true) → b || has p (xs ++ ys) ≡ true
      go true on rest = refl
      go false on rest = rest on

  pub has_back : (p : A → Bool) (xs ys : List A) → has p ys ≡ true → has p (xs ++ ys) ≡ true
  has_back p [] ys found = found
  has_back p (x ∷ xs) ys found = right_true (p x) (has p (xs ++ ys)) (has_back p xs ys found)

  pub has_none : (p : A → Bool) (xs ys : List A) → has p xs ≡ false → has p ys ≡ false → has p (xs ++ ys) ≡ false
  has_none p [] ys off none = none
  has_none p (x ∷ xs) ys off none =
      let both = both_false (p x) (has p xs) off in
      ap (λ b. b || has p (xs ++ ys)) both.0 ∙ has_none p xs ys both.1 none

  -- what is up to the first of a kind is among all
  pub has_within : (p q : A → Bool) (xs : List A) → has q (until_first p xs) ≡ true → has q xs ≡ true
  has_within p q [] found = found
  has_within p q (x ∷ xs) found = go (p x) (has p xs) (q x) refl (λ more. has_within p q xs more) found
    where
      go : (b c d : Bool) → q x ≡ d → (has q (until_first p xs) ≡ true → has q xs ≡ true) → has q (cond b (x ∷ []) (cond c (x ∷ until_first p xs) [])) ≡ true → q x || has q xs ≡ true
      go b c true is rest at = ap (λ k. k || has q xs) is
      go true c false is rest at = cannot (sym at ∙ ap (λ k. k || false) is)
      go false true false is rest at = right_true (q x) (has q xs) (rest (sym (ap (λ k. k || has q (until_first p xs)) is) ∙ at))
      go false false false is rest at = cannot (sym at)

  pub has_own : (p : A → Bool) (xs : List A) → has p xs ≡ true → has p (until_first p xs) ≡ true
  has_own p [] found = found
  has_own p (x ∷ xs) found = go (p x) (has p xs) refl found (λ more. has_own p xs more)
    where
      go : (b c : Bool) → p x ≡ b → b || c ≡ true → (c ≡ true → has p (until_first p xs) ≡ true) → has p (cond b (x ∷ []) (cond c (x ∷ until_first p xs) [])) ≡ true
      go true c is some rest = ap (λ k. k || false) is
      go false true is some rest = right_true (p x) (has p (until_first p xs)) (rest refl)
      go false false is some rest = cannot (sym some)

  -- up to a first that is there already
  pub until_kept : (p : A → Bool) (xs ys : List A) → has p xs ≡ true → until_first p (xs ++ ys) ≡ until_first p xs
  until_kept p [] ys found = cannot (sym found)
  until_kept p (x ∷ xs) ys found = go (p x) (has p xs) refl found (λ more. until_kept p xs ys more)
    where
      go : (b c : Bool) → has p xs ≡ c → b || c ≡ true → (has p xs ≡ true → until_first p (xs ++ ys) ≡ until_first p xs)
          → cond b (x ∷ []) (cond (has p (xs ++ ys)) (x ∷ until_first p (xs ++ ys)) []) ≡ cond b (x ∷ []) (cond c (x ∷ until_first p xs) [])
      go true c is some rest = refl
      go false true is some rest = λ i. cond (has_front p xs ys is i) (x ∷ rest is i) []
      go false false is some rest = cannot (sym some)

  -- up to a first that comes last
  pub until_new : (p : A → Bool) (xs : List A) (y : A) → has p xs ≡ false → p y ≡ true → until_first p (xs ++ y ∷ []) ≡ xs ++ y ∷ []
  until_new p [] y off on = ap (λ b. cond b (y ∷ []) []) on
  until_new p (x ∷ xs) y off on =
      let both = both_false (p x) (has p xs) off in
      let more : has p (xs ++ y ∷ []) ≡ true = has_back p xs (y ∷ []) (ap (λ b. b || false) on) in
      λ i. cond (both.0 i) (x ∷ []) (cond (more i) (x ∷ until_new p xs y both.1 on i) [])

  -- a front of a front
  pub until_until : (p q : A → Bool) (xs : List A) → has q (until_first p xs) ≡ true → until_first q (until_first p xs) ≡ until_first q xs
  until_until p q [] found = refl
  until_until p q (x ∷ xs) found = go (p x) (has p xs) (q x) refl (λ more. until_until p q xs more) found
    where
      here : (d : Bool) (us vs : List A) → d ≡ true → cond d (x ∷ []) us ≡ cond d (x ∷ []) vs
      here true us vs is = refl
      here false us vs is = cannot (sym is)

      go : (b c d : Bool) → q x ≡ d → (has q (until_first p xs) ≡ true → until_first q (until_first p xs) ≡ until_first q xs) → has q (cond b (x ∷ []) (cond c (x ∷ until_first p xs) [])) ≡ true
          → until_first q (cond b (x ∷ []) (cond c (x ∷ until_first p xs) [])) ≡ cond (q x) (x ∷ []) (cond (has q xs) (x ∷ until_first q xs) [])
      go true c true is rest at = here (q x) _ _ is
      go false true true is rest at = here (q x) _ _ is
      go false false d is rest at = cannot (sym at)
      go true c false is rest at = cannot (sym at ∙ ap (λ k. k || false) is)
      go false true false is rest at =
          let more : has q (until_first p xs) ≡ true = sym (ap (λ k. k || has q (until_first p xs)) is) ∙ at in
          let all : has q xs ≡ true = has_within p q xs more in
          λ i. cond (q x) (x ∷ []) (cond ((more ∙ sym all) i) (x ∷ rest more i) [])
