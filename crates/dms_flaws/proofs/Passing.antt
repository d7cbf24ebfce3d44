-- Tests of a list's members, each behind those before it.
use Rattle.std.proofs.Common.{◌≡◌, Bool, true, false, cond, List, [], ◌∷◌, ◌++◌, Option, Some, None, refl, sym, ap, subst, ◌∙◌, append_assoc}
use Rattle.std.specs.Prelude.{◌&&◌}
use Rattle.std.proofs.lemmas.Bool.{and_parts, and_from}
use Rattle.dms_flaws.specs.Firsts.{all_pass, first_failing}

module _ {A : Type 0} (ok : List A → A → Bool) where
  push_assoc : (before : List A) (x : A) (us : List A) → (before ++ x ∷ []) ++ us ≡ before ++ x ∷ us
  push_assoc before x us = append_assoc before (x ∷ []) us

  -- what passes has each member pass
  pub pass_at : (before us vs : List A) (x : A) → all_pass ok before (us ++ x ∷ vs) ≡ true → ok (before ++ us) x ≡ true
  pass_at before [] vs x all = ap (λ (l : List A). ok l x) (none before) ∙ (and_parts (ok before x) (all_pass ok (before ++ x ∷ []) vs) all).0
    where
      none : (l : List A) → l ++ [] ≡ l
      none [] = refl
      none (y ∷ l) = ap (λ (k : List A). y ∷ k) (none l)
  pass_at before (u ∷ us) vs x all =
      ap (λ (l : List A). ok l x) (sym (push_assoc before u us)) ∙ pass_at (before ++ u ∷ []) us vs x (and_parts (ok before u) (all_pass ok (before ++ u ∷ []) (us ++ x ∷ vs)) all).1

  -- where each member passes all do
  pub pass_by : (before xs : List A) → ((us vs : List A) (x : A) → xs ≡ us ++ x ∷ vs → ok (before ++ us) x ≡ true) → all_pass ok before xs ≡ true
  pass_by before [] each = refl
  pass_by before (x ∷ xs) each =
      and_from (ok before x) (all_pass ok (before ++ x ∷ []) xs)
      (ap (λ (l : List A). ok l x) (sym (none before)) ∙ each [] xs x refl)
      (pass_by (before ++ x ∷ []) xs (λ us vs y is. ap (λ (l : List A). ok l y) (push_assoc before x us) ∙ each (x ∷ us) vs y (ap (λ (l : List A). x ∷ l) is)))
    where
      none : (l : List A) → l ++ [] ≡ l
      none [] = refl
      none (y ∷ l) = ap (λ (k : List A). y ∷ k) (none l)

  -- none fails where all pass
  pub none_fails : (before xs : List A) → all_pass ok before xs ≡ true → first_failing ok before xs ≡ None
  none_fails before [] all = refl
  none_fails before (x ∷ xs) all =
      let both = and_parts (ok before x) (all_pass ok (before ++ x ∷ []) xs) all in
      ap (λ t. cond t (first_failing ok (before ++ x ∷ []) xs) (Some x)) both.0 ∙ none_fails (before ++ x ∷ []) xs both.1

  by_test : (t : Bool) (x : A) (o : Option A) → cond t o (Some x) ≡ None → (t ≡ true) × (o ≡ None)
  by_test true x o h = (refl, h)
  by_test false x o h = absurd (cc h)

  -- and all pass where none fails
  pub fails_none : (before xs : List A) → first_failing ok before xs ≡ None → all_pass ok before xs ≡ true
  fails_none before [] h = refl
  fails_none before (x ∷ xs) h =
      let both = by_test (ok before x) x (first_failing ok (before ++ x ∷ []) xs) h in
      and_from (ok before x) (all_pass ok (before ++ x ∷ []) xs) both.0 (fails_none (before ++ x ∷ []) xs both.1)
