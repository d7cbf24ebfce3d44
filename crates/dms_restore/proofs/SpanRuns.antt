-- The Schemas before live entries, from runs of them.
use Rattle.std.specs.Prelude.{nat_le}
use Rattle.std.proofs.Common.{ℕ, zero, suc, ◌+◌, ◌≤◌, ◌<◌, ◌≡◌, inl, inr, true, false, cond, List, [], ◌∷◌, ◌++◌, length, take, min, get_or, Option, None, refl, sym, ◌∙◌, ap, arith, length-append}
use Rattle.std.proofs.lemmas.Bool.{cases_lt}
use Rattle.std.proofs.lemmas.Bool.Decides.{nat_tests}
use Rattle.std.proofs.lemmas.List.{take_all, take_more}
use Rattle.dms_restore.specs.declared.schemas.SchemaSpan.{SchemaSpan}
use Rattle.dms_restore.specs.declared.schemas.SpanRun.{SpanRun}
use Rattle.dms_restore.specs.SchemaSpans.{span_told, spans_of}

-- ---- lists of Schemas

pub get_front : (ss : List (Option SchemaSpan)) (s : Option SchemaSpan) (k : ℕ) → k < length ss → get_or (ss ++ s ∷ []) k None ≡ get_or ss k None
get_front [] s k low = absurd (omega (arith, low))
get_front (t ∷ ss) s zero low = refl
get_front (t ∷ ss) s (suc k) low = get_front ss s k (omega (arith, low))

pub get_last : (ss : List (Option SchemaSpan)) (s : Option SchemaSpan) (k : ℕ) → k ≡ length ss → get_or (ss ++ s ∷ []) k None ≡ s
get_last [] s zero same = refl
get_last [] s (suc k) same = absurd (omega (arith, same))
get_last (t ∷ ss) s zero same = absurd (omega (arith, same))
get_last (t ∷ ss) s (suc k) same = get_last ss s k (omega (arith, same))

take_front : (ss : List (Option SchemaSpan)) (s : Option SchemaSpan) (k : ℕ) → k ≤ length ss → take k (ss ++ s ∷ []) ≡ take k ss
take_front ss s zero low = refl
take_front [] s (suc k) low = absurd (omega (arith, low))
take_front (t ∷ ss) s (suc k) low = ap (λ (l : List (Option SchemaSpan)). t ∷ l) (take_front ss s k (omega (arith, low)))

-- ---- one more run

is_in : (m n : ℕ) → m ≤ n → nat_le m n ≡ true
is_in m n le = grind (arith, nat_tests)

is_out : (m n : ℕ) → n < m → nat_le m n ≡ false
is_out m n low = grind (arith, nat_tests)

told_push : (rs : List SpanRun) (r : SpanRun) (k : ℕ) (found : Option SchemaSpan) → span_told (rs ++ r ∷ []) k found ≡ cond (nat_le r.from k) r.span (span_told rs k found)
told_push [] r k found = refl
told_push (x ∷ rs) r k found = told_push rs r k (cond (nat_le x.from k) x.span found)

pub told_in : (rs : List SpanRun) (r : SpanRun) (k : ℕ) → r.from ≤ k → span_told (rs ++ r ∷ []) k None ≡ r.span
told_in rs r k le = told_push rs r k None ∙ ap (λ b. cond b r.span (span_told rs k None)) (is_in r.from k le)

pub told_out : (rs : List SpanRun) (r : SpanRun) (k : ℕ) → k < r.from → span_told (rs ++ r ∷ []) k None ≡ span_told rs k None
told_out rs r k low = told_push rs r k None ∙ ap (λ b. cond b r.span (span_told rs k None)) (is_out r.from k low)

-- the same of the first i runs and the one behind them
pub next_in : (rs : List SpanRun) (i k : ℕ) (d : SpanRun) → i < length rs → (get_or rs i d).from ≤ k → span_told (take (i + 1) rs) k None ≡ (get_or rs i d).span
next_in rs i k d low le = ap (λ (l : List SpanRun). span_told l k None) (take_more rs i d low) ∙ told_in (take i rs) (get_or rs i d) k le

pub next_out : (rs : List SpanRun) (i k : ℕ) (d : SpanRun) → i < length rs → k < (get_or rs i d).from → span_told (take (i + 1) rs) k None ≡ span_told (take i rs) k None
next_out rs i k d low out = ap (λ (l : List SpanRun). span_told l k None) (take_more rs i d low) ∙ told_out (take i rs) (get_or rs i d) k out

pub all_told : (rs : List SpanRun) (i k : ℕ) → length rs ≤ i → span_told (take i rs) k None ≡ span_told rs k None
all_told rs i k le = ap (λ (l : List SpanRun). span_told l k None) (take_all i rs le)

-- the last run tells it
pub last_told : (rs : List SpanRun) (n k : ℕ) (d : SpanRun) → n + 1 ≡ length rs → (get_or rs n d).from ≤ k → span_told rs k None ≡ (get_or rs n d).span
last_told rs n k d size le = sym (all_told rs (n + 1) k (omega (arith, size))) ∙ next_in rs n k d (omega (arith, size)) le

-- ---- the Schemas of all

pub length_spans : (rs : List SpanRun) (n : ℕ) → length (spans_of rs n) ≡ n
length_spans rs zero = refl
length_spans rs (suc n) = omega (arith, length-append (spans_of rs n) (span_told rs n None ∷ []), length_spans rs n)

pub at_spans : (rs : List SpanRun) (n k : ℕ) → k < n → get_or (spans_of rs n) k None ≡ span_told rs k None
at_spans rs zero k low = absurd (omega (arith, low))
at_spans rs (suc n) k low = elim (cases_lt k n) [
  | inl under ↦ get_front (spans_of rs n) (span_told rs n None) k (omega (arith, under, length_spans rs n)) ∙ at_spans rs n k under
  | inr top ↦
      let same : k ≡ n = omega (arith, low, top) in
      get_last (spans_of rs n) (span_told rs n None) k (same ∙ sym (length_spans rs n)) ∙ ap (λ j. span_told rs j None) (sym same)
]

pub same_spans : (rs ss : List SpanRun) (n : ℕ) → ((k : ℕ) → k < n → span_told rs k None ≡ span_told ss k None) → spans_of rs n ≡ spans_of ss n
same_spans rs ss zero same = refl
same_spans rs ss (suc n) same =
    let front = same_spans rs ss n (λ k low. same k (omega (arith, low))) in
    let last = same n (omega arith) in
    λ i. front i ++ last i ∷ []

first_spans : (rs : List SpanRun) (n k : ℕ) → k ≤ n → take k (spans_of rs n) ≡ spans_of rs k
first_spans rs zero zero le = refl
first_spans rs zero (suc k) le = absurd (omega (arith, le))
first_spans rs (suc n) k le = elim (cases_lt n k) [
  | inl top ↦
      let same : suc n ≡ k = omega (arith, le, top) in
      take_all k (spans_of rs (suc n)) (omega (arith, same, length_spans rs (suc n))) ∙ ap (spans_of rs) same
  | inr under ↦ take_front (spans_of rs n) (span_told rs n None) k (omega (arith, under, length_spans rs n)) ∙ first_spans rs n k under
]

take_spans : (rs : List SpanRun) (n k m : ℕ) → m ≡ min n k → take k (spans_of rs n) ≡ spans_of rs m
take_spans rs n k m is = elim (cases_lt k n) [
  | inl under ↦
      let same : k ≡ m = omega (arith, is, under) in
      first_spans rs n k (omega (arith, under)) ∙ ap (spans_of rs) same
  | inr all ↦
      let same : n ≡ m = omega (arith, is, all) in
      take_all k (spans_of rs n) (omega (arith, all, length_spans rs n)) ∙ ap (spans_of rs) same
]

-- the runs of the first k are left
pub cut_spans : (rs : List SpanRun) (n k m w : ℕ) → m ≡ min n k → ((j : ℕ) → j < k → span_told (take w rs) j None ≡ span_told rs j None) → spans_of (take w rs) m ≡ take k (spans_of rs n)
cut_spans rs n k m w is same = same_spans (take w rs) rs m (λ j low. same j (omega (arith, low, is))) ∙ sym (take_spans rs n k m is)

-- a run of what comes next tells nothing else of what was
pub run_begun : (rs : List SpanRun) (n : ℕ) (s : Option SchemaSpan) → spans_of (rs ++ record { from = n; span = s } ∷ []) n ≡ spans_of rs n
run_begun rs n s = same_spans (rs ++ record { from = n; span = s } ∷ []) rs n (λ k low. told_out rs (record { from = n; span = s }) k low)
