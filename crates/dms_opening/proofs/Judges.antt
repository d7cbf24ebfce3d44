-- The refusals of a point, by what is live.
use Rattle.std.specs.Prelude.{◌&&◌, nat_le}
use Rattle.std.proofs.Common.{ℕ, ◌≤◌, ◌<◌, ◌≡◌, inl, inr, Bool, true, false, List, [], ◌∷◌, Some, None, refl, sym, ◌∙◌, subst, arith}
use Rattle.std.proofs.lemmas.Bool.{cases_lt, true≢false}
use Rattle.std.proofs.lemmas.Bool.Decides.{nat_tests}
use Rattle.dms_history.specs.Events.{Event, change, quiet, control, begin}
use Rattle.dms_history.specs.Lists.{has, until_first}
use Rattle.dms_history.specs.Places.{is_point, is_described, IsLive}
use Rattle.dms_history.specs.Judge.{no_such_point, audit_missing, voided, is_live, judge_point}
use Rattle.dms_history.proofs.AtPoints.{true_or, or_true_right}
use Rattle.dms_history.proofs.HalfDone.{or_at}
use Rattle.dms_history.proofs.Order.{eq_of}
use Rattle.dms_history.proofs.Judging.{each_judged}
use Rattle.dms_opening.specs.Judged.{is_low}

both : (a b : Bool) → a && b ≡ true → (a ≡ true) × (b ≡ true)
both true true is = (refl, refl)
both true false is = absurd (true≢false (sym is))
both false b is = absurd (true≢false (sym is))

joined : (a b : Bool) → a ≡ true → b ≡ true → a && b ≡ true
joined a b on also = λ i. on i && also i

lives_by_test : (live : List Event) (n : ℕ) → is_live live n ≡ true → IsLive live n
lives_by_test live n on = let r = both (has (is_point n) live) (has is_described (until_first (is_point n) live)) on in record { found = r.0; described = r.1 }

test_of_live : (live : List Event) (n : ℕ) → IsLive live n → is_live live n ≡ true
test_of_live live n at = λ i. at.found i && at.described i

at_most : (m n : ℕ) → nat_le m n ≡ true → m ≤ n
at_most m n on = grind (arith, nat_tests)

pub not_above : (m n : ℕ) → m ≤ n → nat_le m n ≡ true
not_above m n le = grind (arith, nat_tests)

-- a live point that isn't above n
abbrev LowLives : List Event → ℕ → Type 0
LowLives live n = (m : ℕ) × IsLive live m × (m ≤ n)

low_event : (live : List Event) (n : ℕ) (e : Event) → is_low live n e ≡ true → LowLives live n
low_event live n (change f b before after) on = absurd (true≢false (sym on))
low_event live n (quiet m) on = let r = both (nat_le m n) (is_live live m) on in (m, lives_by_test live m r.1, at_most m n r.0)
low_event live n (control m next counts described) on = let r = both (nat_le m n) (is_live live m) on in (m, lives_by_test live m r.1, at_most m n r.0)
low_event live n (begin m how) on = absurd (true≢false (sym on))

low_found : (live : List Event) (n : ℕ) (es : List Event) → has (is_low live n) es ≡ true → LowLives live n
low_found live n [] on = absurd (true≢false (sym on))
low_found live n (e ∷ es) on = elim (or_at (is_low live n e) (has (is_low live n) es) on) [ inl here ↦ low_event live n e here | inr more ↦ low_found live n es more.1 ]

event_low : (live : List Event) (n m : ℕ) (e : Event) → IsLive live m → m ≤ n → is_point m e ≡ true → is_low live n e ≡ true
event_low live n m (change f b before after) at le on = absurd (true≢false (sym on))
event_low live n m (quiet k) at le on = let same = eq_of k m on in subst (λ j. nat_le j n && is_live live j ≡ true) (sym same) (joined (nat_le m n) (is_live live m) (not_above m n le) (test_of_live live m at))
event_low live n m (control k next counts described) at le on = let same = eq_of k m on in subst (λ j. nat_le j n && is_live live j ≡ true) (sym same) (joined (nat_le m n) (is_live live m) (not_above m n le) (test_of_live live m at))
event_low live n m (begin k how) at le on = absurd (true≢false (sym on))

found_low : (live : List Event) (n m : ℕ) (es : List Event) → IsLive live m → m ≤ n → has (is_point m) es ≡ true → has (is_low live n) es ≡ true
found_low live n m [] at le on = absurd (true≢false (sym on))
found_low live n m (e ∷ es) at le on = elim (or_at (is_point m e) (has (is_point m) es) on) [
  | inl here ↦ true_or (is_low live n e) (has (is_low live n) es) (event_low live n m e at le here)
  | inr more ↦ or_true_right (is_low live n e) (has (is_low live n) es) (found_low live n m es at le more.1)
]

pub judged_high : (live : List Event) (next n : ℕ) → next ≤ n → judge_point live next n ≡ Some no_such_point
judged_high live next n le = (each_judged live next n).no_such.1 le

pub judged_live : (live : List Event) (next n : ℕ) → n < next → is_live live n ≡ true → judge_point live next n ≡ None
judged_live live next n low on = (each_judged live next n).lives.1 (low, lives_by_test live n on)

pub judged_void : (live : List Event) (next n : ℕ) → n < next → is_live live n ≡ false → has (is_low live n) live ≡ true → judge_point live next n ≡ Some voided
judged_void live next n low off on =
    let r = low_found live n live on in
    (each_judged live next n).void.1 (record { used = low; gone = λ at. true≢false (sym (test_of_live live n at) ∙ off); lower = r.0; lower_lives = r.1; is_lower = less r.0 r.1 r.2 })
  where
    less : (m : ℕ) → IsLive live m → m ≤ n → m < n
    less m at le = elim (cases_lt m n) [
      | inl lower ↦ lower
      | inr high ↦
          let same : m ≡ n = omega (arith, le, high) in
          absurd (true≢false (sym (test_of_live live n (subst (λ k. IsLive live k) same at)) ∙ off))
    ]

pub judged_missing : (live : List Event) (next n : ℕ) → n < next → has (is_low live n) live ≡ false → judge_point live next n ≡ Some audit_missing
judged_missing live next n low none = (each_judged live next n).missing.1 (
  low,
  λ m at. elim (cases_lt n m) [
    | inl above ↦ above
    | inr le ↦ absurd (true≢false (sym (found_low live n m live at le at.found) ∙ none))
  ],
)
