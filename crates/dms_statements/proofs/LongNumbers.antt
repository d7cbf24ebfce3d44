-- The first digits of bytes.
use Rattle.std.specs.Prelude.{nat_lt, if◌then◌else◌}
use Rattle.std.proofs.Common.{ℕ, zero, suc, ◌+◌, ◌*◌, ◌-◌, ◌^◌, ◌<◌, ◌≤◌, ◌≡◌, true, false, cond, List, [], ◌∷◌, length, drop, get_or, Option, Some, None, refl, sym, ◌∙◌, ap, arith}
use Rattle.std.proofs.lemmas.Bool.Decides.{nat_tests}
use Rattle.dms_base.specs.Words.{is_digit}
use Rattle.dms_statements.specs.Statements.{digits_first, digits_value}

pub digits_step : (bytes : List ℕ) (i : ℕ) → i < length bytes → is_digit (get_or bytes i 0) ≡ true → digits_first (drop i bytes) ≡ 1 + digits_first (drop (i + 1) bytes)
digits_step [] i low is = absurd (omega (arith, low))
digits_step (b ∷ bs) zero low is = ap (λ t. cond t (suc (digits_first bs)) 0) is ∙ omega arith
digits_step (b ∷ bs) (suc i) low is = digits_step bs i (omega (arith, low)) is ∙ (let e : suc (i + 1) ≡ suc i + 1 = omega arith in ap (λ k. 1 + digits_first (drop k (b ∷ bs))) e)

pub digits_stop : (bytes : List ℕ) (i : ℕ) → i < length bytes → is_digit (get_or bytes i 0) ≡ false → digits_first (drop i bytes) ≡ 0
digits_stop [] i low is = absurd (omega (arith, low))
digits_stop (b ∷ bs) zero low is = ap (λ t. cond t (suc (digits_first bs)) 0) is
digits_stop (b ∷ bs) (suc i) low is = digits_stop bs i (omega (arith, low)) is

pub digits_end : (bytes : List ℕ) (i : ℕ) → length bytes ≤ i → digits_first (drop i bytes) ≡ 0
digits_end [] zero low = refl
digits_end [] (suc i) low = refl
digits_end (b ∷ bs) zero low = absurd (omega (arith, low))
digits_end (b ∷ bs) (suc i) low = digits_end bs i (omega (arith, low))

-- a value never gets less by more digits
pub value_grows : (v n : ℕ) (bs : List ℕ) → v ≤ digits_value v n bs
value_grows v zero bs = omega arith
value_grows v (suc n) [] = omega arith
value_grows v (suc n) (b ∷ bs) = omega (arith, value_grows (10 * v + (b - 48)) n bs)

pub value_step : (v n i : ℕ) (bytes : List ℕ) → i < n → n ≤ length bytes → digits_value v (n - i) (drop i bytes) ≡ digits_value (10 * v + (get_or bytes i 0 - 48)) (n - (i + 1)) (drop (i + 1) bytes)
value_step v n i bytes low within = go bytes i (n - i) (omega (arith, low, within)) (omega (arith, low)) ∙ (let e : n - i - 1 ≡ n - (i + 1) = omega arith in ap (λ k. digits_value (10 * v + (get_or bytes i 0 - 48)) k (drop (i + 1) bytes)) e)
  where
    go : (bytes : List ℕ) (i k : ℕ) → i < length bytes → 0 < k → digits_value v k (drop i bytes) ≡ digits_value (10 * v + (get_or bytes i 0 - 48)) (k - 1) (drop (i + 1) bytes)
    go [] i k short some = absurd (omega (arith, short))
    go (b ∷ bs) zero zero short some = absurd (omega (arith, some))
    go (b ∷ bs) zero (suc k) short some = let e : k ≡ suc k - 1 = omega arith in ap (λ j. digits_value (10 * v + (b - 48)) j bs) e
    go (b ∷ bs) (suc i) k short some = go bs i k (omega (arith, short)) some ∙ (let e : suc (i + 1) ≡ suc i + 1 = omega arith in ap (λ j. digits_value (10 * v + (get_or bs i 0 - 48)) (k - 1) (drop j (b ∷ bs))) e)

-- too great by now, too great in the end
pub value_past : (v d n i : ℕ) (bytes : List ℕ) → i < n → n ≤ length bytes → digits_value v (n - i) (drop i bytes) ≡ d → 2 ^ 64 ≤ 10 * v + (get_or bytes i 0 - 48) → (let o : Option ℕ = None in o) ≡ (if nat_lt d (2 ^ 64) then Some d else None)
value_past v d n i bytes low within is past =
    let more : 2 ^ 64 ≤ d = omega (arith, past, value_grows (10 * v + (get_or bytes i 0 - 48)) (n - (i + 1)) (drop (i + 1) bytes), value_step v n i bytes low within, is) in
    let off : nat_lt d (2 ^ 64) ≡ false = grind (arith, nat_tests, more) in
    ap (λ t. let o : Option ℕ = cond t (Some d) None in o) (sym off)

pub value_whole : (v d n i : ℕ) (bytes : List ℕ) → n ≤ i → digits_value v (n - i) (drop i bytes) ≡ d → v < 2 ^ 64 → Some v ≡ (if nat_lt d (2 ^ 64) then Some d else None)
value_whole v d n i bytes done is small =
    let none : n - i ≡ 0 = omega (arith, done) in
    let same : v ≡ d = ap (λ k. digits_value v k (drop i bytes)) (sym none) ∙ is in
    let on : nat_lt d (2 ^ 64) ≡ true = grind (arith, nat_tests, small, same) in
    ap (λ k. Some k) same ∙ ap (λ t. let o : Option ℕ = cond t (Some d) None in o) (sym on)
