-- Points of which each block is so at the last Control.
use Rattle.std.specs.Prelude.{◌==◌, ◌||◌}
use Rattle.std.proofs.Common.{ℕ, ◌≡◌, inl, inr, Bool, true, false, cond, List, [], ◌∷◌, ◌++◌, None, refl, sym, ◌∙◌, ap, arith, append_assoc}
use Rattle.std.proofs.lemmas.Bool.{cases_Bool, true≢false}
use Rattle.std.proofs.lemmas.Bool.Decides.{nat_tests}
use Rattle.dms_history.specs.Events.{Counts, Event, quiet, control}
use Rattle.dms_history.specs.Images.{or_else, first_before}
use Rattle.dms_history.specs.Lists.{has, until_first, after_first, after_last}
use Rattle.dms_history.specs.Places.{is_control, is_point}
use Rattle.dms_history.proofs.AtPoints.{true_or, or_true_right}
use Rattle.dms_history.proofs.Base.{has_append}
use Rattle.dms_history.proofs.Cuts.{until_none}
use Rattle.dms_history.proofs.Order.{append_none}
use Rattle.dms_running.proofs.OneMore.{first_append}
use Rattle.dms_restore.specs.TailTables.{EndsRestore, IsUnchangedSince, IsAtControl}
use Rattle.dms_restore.proofs.Patched.{behind_control, last_none}

-- ---- a list cut at the first of a kind, and others behind it

module _ (p : Event → Bool) where
  has_on : (xs ys : List Event) → has p xs ≡ true → has p (xs ++ ys) ≡ true
  has_on xs ys on = has_append p xs ys ∙ true_or (has p xs) (has p ys) on

  after_on : (xs ys : List Event) → has p xs ≡ true → after_first p (xs ++ ys) ≡ after_first p xs ++ ys
  after_on [] ys found = absurd (true≢false (sym found))
  after_on (x ∷ xs) ys found = elim (cases_Bool (p x)) [
    | inl on ↦ (λ i. cond (on i) (xs ++ ys) (after_first p (xs ++ ys))) ∙ ap (λ k. cond k xs (after_first p xs) ++ ys) (sym on)
    | inr off ↦
        (λ i. cond (off i) (xs ++ ys) (after_first p (xs ++ ys))) ∙ after_on xs ys (ap (λ k. k || has p xs) (sym off) ∙ found)
        ∙ ap (λ k. cond k xs (after_first p xs) ++ ys) (sym off)
  ]

  -- what follows the first of a kind, where a list is cut there
  after_cut : (xs ys : List Event) → has p xs ≡ true → after_first p (until_first p xs ++ ys) ≡ ys
  after_cut [] ys found = absurd (true≢false (sym found))
  after_cut (x ∷ xs) ys found = elim (cases_Bool (p x)) [
    | inl on ↦
        let one : until_first p (x ∷ xs) ≡ x ∷ [] = λ i. cond (on i) (x ∷ []) (cond (has p xs) (x ∷ until_first p xs) []) in
        ap (λ (l : List Event). after_first p (l ++ ys)) one ∙ ap (λ k. cond k ys (after_first p ys)) on
    | inr off ↦
        let more : has p xs ≡ true = ap (λ k. k || has p xs) (sym off) ∙ found in
        let one : until_first p (x ∷ xs) ≡ x ∷ until_first p xs = λ i. cond (off i) (x ∷ []) (cond (more i) (x ∷ until_first p xs) []) in
        ap (λ (l : List Event). after_first p (l ++ ys)) one ∙ ap (λ k. cond k (until_first p xs ++ ys) (after_first p (until_first p xs ++ ys))) off ∙ after_cut xs ys more
  ]

  -- what follows the last of a kind, with some behind that are of another
  last_on : (xs ys : List Event) → has p ys ≡ false → after_last p (xs ++ ys) ≡ after_last p xs ++ ys
  last_on [] ys none = last_none p ys none
  last_on (x ∷ xs) ys none =
      let same : has p ((x ∷ xs) ++ ys) ≡ has p (x ∷ xs) = has_append p (x ∷ xs) ys ∙ ap (λ k. has p (x ∷ xs) || k) none ∙ or_false (has p (x ∷ xs)) in
      elim (cases_Bool (has p (x ∷ xs))) [
        | inl on ↦
            (λ i. cond ((same ∙ on) i) (after_last p (xs ++ ys)) (x ∷ (xs ++ ys))) ∙ last_on xs ys none
            ∙ ap (λ k. cond k (after_last p xs) (x ∷ xs) ++ ys) (sym on)
        | inr off ↦ (λ i. cond ((same ∙ off) i) (after_last p (xs ++ ys)) (x ∷ (xs ++ ys))) ∙ ap (λ k. cond k (after_last p xs) (x ∷ xs) ++ ys) (sym off)
      ]
    where
      or_false : (b : Bool) → (b || false) ≡ b
      or_false true = refl
      or_false false = refl

-- ---- what stands behind a point

-- a quiet point whose number is new
pub unchanged_quiet : (live : List Event) (n : ℕ) → has (is_point n) live ≡ false → IsUnchangedSince (live ++ quiet n ∷ []) n
unchanged_quiet live n none =
    let own : (n == n) ≡ true = grind (arith, nat_tests) in record {
      lives = has_append (is_point n) live (quiet n ∷ []) ∙ or_true_right (has (is_point n) live) ((n == n) || false) (true_or (n == n) false own);
      none = λ f b. ap (λ (l : List Event). first_before f b l) (behind live none);
    }
  where
    behind : (es : List Event) → has (is_point n) es ≡ false → after_first (is_point n) (es ++ quiet n ∷ []) ≡ []
    behind [] off = let own : (n == n) ≡ true = grind (arith, nat_tests) in λ i. cond (own i) [] []
    behind (e ∷ es) off = elim (cases_Bool (is_point n e)) [
      | inl on ↦ absurd (true≢false (sym (true_or (is_point n e) (has (is_point n) es) on) ∙ off))
      | inr other ↦ (λ i. cond (other i) (es ++ quiet n ∷ []) (after_first (is_point n) (es ++ quiet n ∷ []))) ∙ behind es (ap (λ k. k || has (is_point n) es) (sym other) ∙ off)
    ]

-- others behind, of which none changes a block
pub unchanged_more : (live more : List Event) (m : ℕ) → ((f b : ℕ) → first_before f b more ≡ None) → IsUnchangedSince live m → IsUnchangedSince (live ++ more) m
unchanged_more live more m still is = record {
  lives = has_on (is_point m) live more is.lives;
  none = λ f b.
      ap (λ (l : List Event). first_before f b l) (after_on (is_point m) live more is.lives) ∙ first_append f b (after_first (is_point m) live) more
      ∙ (λ i. or_else (is.none f b i) (still f b i));
}

-- the Control of a restore
pub unchanged_ended : (live : List Event) (m : ℕ) → EndsRestore live m → IsUnchangedSince live m
unchanged_ended live m r =
    let p = is_point m in
    let c = control m r.next r.counts r.described in
    let front = until_first p r.before in
    let own : (m == m) ≡ true = grind (arith, nat_tests) in record {
      lives = ap (λ (l : List Event). has p l) r.are ∙ has_append p front (c ∷ []) ∙ or_true_right (has p front) ((m == m) || false) (true_or (m == m) false own);
      none = λ f b. ap (λ (l : List Event). first_before f b (after_first p l)) r.are ∙ elim (cases_Bool (has p r.before)) [
        | inl lives ↦ ap (λ (l : List Event). first_before f b l) (after_cut p r.before (c ∷ []) lives)
        | inr off ↦ ap (λ (l : List Event). first_before f b (after_first p (l ++ c ∷ []))) (until_none p r.before off) ∙ (λ i. first_before f b (cond (own i) [] []))
      ];
    }

-- ---- what stands at a Control

-- a Control behind all
pub control_at : (live front : List Event) (m k next : ℕ) (counts : Counts) (described : Bool) → live ≡ front ++ control k next counts described ∷ [] → IsUnchangedSince live m → IsAtControl live m
control_at live front m k next counts described are is = record {
  lives = is.lives;
  still = after_first (is_point m) live;
  are = sym (append_none (after_first (is_point m) live))
      ∙ ap (λ (l : List Event). after_first (is_point m) live ++ l) (sym (ap (λ (l : List Event). after_last is_control l) are ∙ behind_control front [] k next counts described refl));
  none = is.none;
}

pub ended_at : (live : List Event) (m : ℕ) → EndsRestore live m → IsAtControl live m
ended_at live m r = control_at live (until_first (is_point m) r.before) m m r.next r.counts r.described r.are (unchanged_ended live m r)

-- others behind, among which there is no Control
pub at_more : (live more : List Event) (m : ℕ) → has is_control more ≡ false → IsAtControl live m → IsAtControl (live ++ more) m
at_more live more m none is = record {
  lives = has_on (is_point m) live more is.lives;
  still = is.still;
  are = after_on (is_point m) live more is.lives ∙ ap (λ (l : List Event). l ++ more) is.are ∙ append_assoc is.still (after_last is_control live) more
      ∙ ap (λ (l : List Event). is.still ++ l) (sym (last_on is_control live more none));
  none = is.none;
}
