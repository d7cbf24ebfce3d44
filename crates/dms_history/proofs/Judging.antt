-- Why a point can't be had.
use Rattle.std.specs.Prelude.{◌&&◌, nat_le}
use Rattle.std.proofs.Common.{ℕ, ◌≤◌, ◌<◌, ◌≡◌, ◌==◌, inl, inr, Bool, true, false, cond, List, [], ◌∷◌, Option, Some, None, refl, sym, ◌∙◌, subst, arith}
use Rattle.std.proofs.lemmas.Bool.{cases_lt, cases_Bool, true≢false}
use Rattle.std.proofs.lemmas.Bool.Decides.{nat_tests}
use Rattle.dms_history.specs.Events.{Event}
use Rattle.dms_history.specs.Lists.{has, until_first}
use Rattle.dms_history.specs.Places.{is_point, is_described, IsLive}
use Rattle.dms_history.specs.Points.{live_numbers}
use Rattle.dms_history.specs.Judge.{PointRefusal, no_such_point, audit_missing, voided, is_live, judge_point, EachJudged}
use Rattle.dms_history.proofs.AtPoints.{true_or, or_true_right}
use Rattle.dms_history.proofs.HalfDone.{or_at}
use Rattle.dms_history.proofs.Order.{eq_of}
use Rattle.dms_history.proofs.Listed.{EachLive, all_live, live_is_listed}

-- a live number that isn't above n
some_low : (live : List Event) (n : ℕ) (ns : List ℕ) → EachLive live ns → has (λ m. nat_le m n) ns ≡ true → (m : ℕ) × IsLive live m × (m ≤ n)
some_low live n [] all found = absurd (true≢false (sym found))
some_low live n (k ∷ ns) all found = elim (or_at (nat_le k n) (has (λ m. nat_le m n) ns) found) [
  | inl low ↦ (k, all.0, at_most k n low)
  | inr more ↦ some_low live n ns all.1 more.1
]
  where
    at_most : (k n : ℕ) → nat_le k n ≡ true → k ≤ n
    at_most k n low = grind (arith, nat_tests)

low_listed : (n m : ℕ) (ns : List ℕ) → m ≤ n → has (λ k. k == m) ns ≡ true → has (λ k. nat_le k n) ns ≡ true
low_listed n m [] le found = absurd (true≢false (sym found))
low_listed n m (k ∷ ns) le found = elim (or_at (k == m) (has (λ j. j == m) ns) found) [
  | inl same ↦ true_or (nat_le k n) (has (λ j. nat_le j n) ns) (test k n m (eq_of k m same) le)
  | inr more ↦ or_true_right (nat_le k n) (has (λ j. nat_le j n) ns) (low_listed n m ns le more.1)
]
  where
    test : (k n m : ℕ) → k ≡ m → m ≤ n → nat_le k n ≡ true
    test k n m same le = grind (arith, nat_tests)

live_test : (live : List Event) (n : ℕ) → is_live live n ≡ true → IsLive live n
live_test live n on = go (has (is_point n) live) (has is_described (until_first (is_point n) live)) refl refl on
  where
    go : (a b : Bool) → has (is_point n) live ≡ a → has is_described (until_first (is_point n) live) ≡ b → a && b ≡ true → IsLive live n
    go true true found told both = record { found = found; described = told }
    go true false found told both = absurd (true≢false (sym both))
    go false b found told both = absurd (true≢false (sym both))

test_live : (live : List Event) (n : ℕ) → IsLive live n → is_live live n ≡ true
test_live live n at = λ i. at.found i && at.described i

-- ---- the answers apart

abbrev refusal_by : Bool → Bool → Bool → Option PointRefusal
refusal_by none lives low = cond none (Some no_such_point) (cond lives None (cond low (Some voided) (Some audit_missing)))

when_lives : (a b c : Bool) → refusal_by a b c ≡ None → (a ≡ false) × (b ≡ true)
when_lives true b c is = absurd cc
when_lives false true c is = (refl, refl)
when_lives false false true is = absurd cc
when_lives false false false is = absurd cc

when_none : (a b c : Bool) → refusal_by a b c ≡ Some no_such_point → a ≡ true
when_none true b c is = refl
when_none false true c is = absurd cc
when_none false false true is = absurd cc
when_none false false false is = absurd cc

when_missing : (a b c : Bool) → refusal_by a b c ≡ Some audit_missing → (a ≡ false) × (b ≡ false) × (c ≡ false)
when_missing true b c is = absurd cc
when_missing false true c is = absurd cc
when_missing false false true is = absurd cc
when_missing false false false is = (refl, refl, refl)

when_void : (a b c : Bool) → refusal_by a b c ≡ Some voided → (a ≡ false) × (b ≡ false) × (c ≡ true)
when_void true b c is = absurd cc
when_void false true c is = absurd cc
when_void false false true is = (refl, refl, refl)
when_void false false false is = absurd cc

below : (next n : ℕ) → nat_le next n ≡ false → n < next
below next n off = grind (arith, nat_tests)

not_below : (next n : ℕ) → n < next → nat_le next n ≡ false
not_below next n low = grind (arith, nat_tests)

used_up : (next n : ℕ) → nat_le next n ≡ true → next ≤ n
used_up next n on = grind (arith, nat_tests)

free_number : (next n : ℕ) → next ≤ n → nat_le next n ≡ true
free_number next n le = grind (arith, nat_tests)

pub each_judged : EachJudged
unfolding judge_point
each_judged live next n =
    let a = nat_le next n in
    let b = is_live live n in
    let c = has (λ m. nat_le m n) (live_numbers live) in
    record {
      lives = (
        λ is. let both = when_lives a b c is in (below next n both.0, live_test live n both.1),
        λ both. λ i. refusal_by (not_below next n both.0 i) (test_live live n both.1 i) c,
      );
      no_such = (λ is. used_up next n (when_none a b c is), λ le. λ i. refusal_by (free_number next n le i) b c);
      missing = (
        λ is.
            let all = when_missing a b c is in
            (below next n all.0, λ m at. elim (cases_lt n m) [ inl above ↦ above | inr le ↦ absurd (true≢false (sym (low_listed n m (live_numbers live) le (live_is_listed live m at)) ∙ all.2)) ]),
        λ both.
            let off : b ≡ false = elim (cases_Bool b) [ inr off ↦ off | inl on ↦ let up = both.1 n (live_test live n on) in absurd (omega (arith, up)) ] in
            let none : c ≡ false = elim (cases_Bool c) [
              | inr none ↦ none
              | inl some ↦ let r = some_low live n (live_numbers live) (all_live live) some in let up = both.1 r.0 r.1 in absurd (omega (arith, up, r.2))
            ] in
            λ i. refusal_by (not_below next n both.0 i) (off i) (none i),
      );
      void = (
        λ is.
            let all = when_void a b c is in
            let r = some_low live n (live_numbers live) (all_live live) all.2 in
            record { used = below next n all.0; gone = λ at. true≢false (sym (test_live live n at) ∙ all.1); lower = r.0; lower_lives = r.1; is_lower = less r.0 r.1 r.2 all.1 },
        λ cut.
            let off : b ≡ false = elim (cases_Bool b) [ inr off ↦ off | inl on ↦ absurd (cut.gone (live_test live n on)) ] in
            let low : cut.lower ≤ n = omega (arith, cut.is_lower) in
            λ i. refusal_by (not_below next n cut.used i) (off i) (low_listed n cut.lower (live_numbers live) low (live_is_listed live cut.lower cut.lower_lives) i),
      );
    }
  where
    less : (m : ℕ) → IsLive live m → m ≤ n → is_live live n ≡ false → m < n
    less m at le off = elim (cases_lt m n) [
      | inl low ↦ low
      | inr high ↦
          let same : m ≡ n = omega (arith, le, high) in
          absurd (true≢false (sym (test_live live n (subst (λ k. IsLive live k) same at)) ∙ off))
    ]
