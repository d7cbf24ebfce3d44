-- What stands at a place of a list that passes a test.
use Rattle.std.proofs.Common.{◌≡◌, ℕ, zero, suc, ◌-◌, ◌≤◌, Bool, true, false, cond, eqb, List, [], ◌∷◌, length, Option, Some, None, sym, ap, ◌∙◌, arith}
use Rattle.std.specs.Prelude.{slice_get}
use Rattle.std.specs.List.{list_all}
use Rattle.std.proofs.lemmas.Bool.{and_parts}
use Rattle.std.proofs.lemmas.Option.{slice_get_within}

same_some : {A : Type 0} (x y : A) → ◌≡◌ {A = Option A} (Some x) (Some y) → x ≡ y
same_some x y e = cc

not_none : {A : Type 0} (b : Bool) (o : Option A) (x : A) → cond b None o ≡ Some x → o ≡ Some x
not_none true o x e = absurd cc
not_none false o x e = e

-- what is found by its number stands at the place before it, and its number is at most the count
pub at_place : {A : Type 0} (xs : List A) (n : ℕ) (x : A) → cond (eqb n 0) None (slice_get xs (n - 1)) ≡ Some x → (slice_get xs (n - 1) ≡ Some x) × (n ≤ length xs)
at_place xs n x e =
    let found = not_none (eqb n 0) (slice_get xs (n - 1)) x e in
    let low = slice_get_within xs (n - 1) x found in
    (found, omega (arith, low))

pub all_at : {A : Type 0} (test : A → Bool) (xs : List A) (k : ℕ) (x : A) → list_all test xs ≡ true → slice_get xs k ≡ Some x → test x ≡ true
all_at test [] k x all e = absurd cc
all_at test (y ∷ ys) zero x all e = ap test (sym (same_some y x e)) ∙ (and_parts (test y) (list_all test ys) all).0
all_at test (y ∷ ys) (suc k) x all e = all_at test ys k x (and_parts (test y) (list_all test ys) all).1 e
