-- Cuts of a list by index.
use Rattle.std.proofs.Math.Seq.{drop-cons}
use Rattle.std.proofs.lemmas.List.{take_all}
use Rattle.std.proofs.Common.{ℕ, zero, suc, ◌+◌, ◌-◌, ◌<◌, ◌≡◌, ◌||◌, Bool, true, false, cond, List, [], ◌∷◌, map, length, length-drop, take, drop, get_or, refl, sym, ◌∙◌, ap, arith, add-one}
use Rattle.dms_history.specs.Lists.{has, until_first, after_first, after_last}
use Rattle.dms_history.proofs.AtPoints.{true_or, or_true_right, or_no}

pub until_none : {A : Type 0} (p : A → Bool) (xs : List A) → has p xs ≡ false → until_first p xs ≡ []
until_none p [] off = refl
until_none p (x ∷ xs) off = let both = or_no (p x) (has p xs) off in λ i. cond (both.0 i) (x ∷ []) (cond (both.1 i) (x ∷ until_first p xs) [])

pub after_none : {A : Type 0} (p : A → Bool) (xs : List A) → has p xs ≡ false → after_first p xs ≡ []
after_none p [] off = refl
after_none p (x ∷ xs) off = let both = or_no (p x) (has p xs) off in ap (λ k. cond k xs (after_first p xs)) both.0 ∙ after_none p xs both.1

-- the first of a kind stands at index i
module _ {D E : Type 0} (seen : D → E) (p : E → Bool) where
  splits : (xs : List D) (i : ℕ) (d : D) → i < length xs → has p (map seen (take i xs)) ≡ false → p (seen (get_or xs i d)) ≡ true
      → (has p (map seen xs) ≡ true) × (until_first p (map seen xs) ≡ map seen (take (suc i) xs)) × (after_first p (map seen xs) ≡ map seen (drop (suc i) xs))
  splits [] i d low off on = absurd (omega (arith, low))
  splits (x ∷ xs) zero d low off on = (
    true_or (p (seen x)) (has p (map seen xs)) on,
    ap (λ k. cond k (seen x ∷ []) (cond (has p (map seen xs)) (seen x ∷ until_first p (map seen xs)) [])) on,
    ap (λ k. cond k (map seen xs) (after_first p (map seen xs))) on,
  )
  splits (x ∷ xs) (suc i) d low off on =
      let both = or_no (p (seen x)) (has p (map seen (take i xs))) off in
      let rest = splits xs i d (omega (arith, low)) both.1 on in (
        or_true_right (p (seen x)) (has p (map seen xs)) rest.0,
        (λ j. cond (both.0 j) (seen x ∷ []) (cond (rest.0 j) (seen x ∷ until_first p (map seen xs)) [])) ∙ ap (λ (l : List E). seen x ∷ l) rest.1,
        ap (λ k. cond k (map seen xs) (after_first p (map seen xs))) both.0 ∙ rest.2,
      )

  pub first_at_index : (xs : List D) (i : ℕ) (d : D) → i < length xs → has p (map seen (take i xs)) ≡ false → p (seen (get_or xs i d)) ≡ true
      → (has p (map seen xs) ≡ true) × (until_first p (map seen xs) ≡ map seen (take (i + 1) xs)) × (after_first p (map seen xs) ≡ map seen (drop (i + 1) xs))
  first_at_index xs i d low off on =
      let r = splits xs i d low off on in
      (r.0, r.1 ∙ ap (λ k. map seen (take k xs)) (sym (add-one i)), r.2 ∙ ap (λ k. map seen (drop k xs)) (sym (add-one i)))

-- what follows the last of a kind, found from the front: i members were looked at, and the last of the kind among them ends at `from`
two : {A : Type 0} (c : Bool) (a b d : A) → cond c (cond c a b) d ≡ cond c a d
two true a b d = refl
two false a b d = refl

after_all : {E : Type 0} (p : E → Bool) (es : List E) → cond (has p es) (after_last p es) es ≡ after_last p es
after_all p [] = refl
after_all p (x ∷ es) = two (has p (x ∷ es)) (after_last p es) (x ∷ es) (x ∷ es)

core : {E : Type 0} (p : E → Bool) (y : E) (es found : List E) (b : Bool) → p y ≡ b
    → cond (has p (y ∷ es)) (after_last p (y ∷ es)) found ≡ cond (has p es) (after_last p es) (cond b es found)
core p y es found true on = (λ i. cond (on i || has p es) (cond (on i || has p es) (after_last p es) (y ∷ es)) found) ∙ sym (after_all p es)
core p y es found false off = (λ i. cond (off i || has p es) (cond (off i || has p es) (after_last p es) (y ∷ es)) found) ∙ two (has p es) (after_last p es) (y ∷ es) found

abbrev pub Rest : {D E : Type 0} → (D → E) → (E → Bool) → List D → ℕ → ℕ → Type 0
Rest seen p xs i from = after_last p (map seen xs) ≡ cond (has p (map seen (drop i xs))) (after_last p (map seen (drop i xs))) (map seen (drop from xs))

pub rest_start : {D E : Type 0} (seen : D → E) (p : E → Bool) (xs : List D) → Rest seen p xs 0 0
rest_start seen p xs = sym (after_all p (map seen xs))

pub rest_next : {D E : Type 0} (seen : D → E) (p : E → Bool) (xs : List D) (i from next : ℕ) (d : D) (b : Bool) → i < length xs → p (seen (get_or xs i d)) ≡ b
    → next ≡ cond b (i + 1) from → Rest seen p xs i from → Rest seen p xs (i + 1) next
rest_next seen p xs i from next d b low is moved rest =
    let es = map seen (drop (suc i) xs) in
    rest ∙ ap (λ l. cond (has p (map seen l)) (after_last p (map seen l)) (map seen (drop from xs))) (drop-cons xs i d low)
    ∙ core p (seen (get_or xs i d)) es (map seen (drop from xs)) b is
    ∙ ap (λ l. cond (has p es) (after_last p es) l) (choice b) ∙ (λ j. cond (has p (map seen (drop (sym (add-one i) j) xs))) (after_last p (map seen (drop (sym (add-one i) j) xs))) (map seen (drop (sym moved j) xs)))
  where
    choice : (b : Bool) → cond b (map seen (drop (suc i) xs)) (map seen (drop from xs)) ≡ map seen (drop (cond b (i + 1) from) xs)
    choice true = ap (λ k. map seen (drop k xs)) (sym (add-one i))
    choice false = refl

-- a slice up to the end
pub to_end : {A : Type 0} (k : ℕ) (xs : List A) → take (length xs - k) (drop k xs) ≡ drop k xs
to_end k xs = take_all (length xs - k) (drop k xs) (omega (arith, length-drop k xs))
