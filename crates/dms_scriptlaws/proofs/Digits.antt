-- Digits hold no line feed and begin with none of SYNCPOINT's letters, and a number below 2 ^ 64 is the only one with its digits.
use Rattle.std.proofs.Common.{ℕ, zero, suc, ◌≡◌, ◌≤◌, ◌<◌, ◌+◌, ◌/◌, ◌%◌, ◌^◌, ◌==◌, ◌∙◌, Bool, true, false, cond, List, [], ◌∷◌, length, refl, sym, ap, arith, nat_lt, decimal}
use Rattle.std.specs.Bool.{⊤}
use Rattle.std.specs.Fmt.{digits, digits_onto, digit_glyph}
use Rattle.std.specs.Str.Parse.{digits_value}
use Rattle.std.proofs.lemmas.Bool.Decides.{nat_tests}
use Rattle.std.proofs.Math.Nat.{pow-suc, one-le-pow, le-div_iff_mul-le}
use Rattle.std.proofs.lemmas.Fmt.{decimal_is_IsNumeral_wide, length-decimal-le}

-- no byte is a line feed
abbrev pub NoFeed : List ℕ → Type 0
NoFeed [] = ⊤
NoFeed (b ∷ bs) = ((b == 10) ≡ false) × NoFeed bs

-- the first byte is no S
abbrev pub BeginsElse : List ℕ → Type 0
BeginsElse [] = ⊥
BeginsElse (b ∷ bs) = (b == 83) ≡ false

glyph_feed : (t : Bool) (d : ℕ) → (cond t (48 + d) (87 + d) == 10) ≡ false
glyph_feed true d = grind (arith, nat_tests)
glyph_feed false d = grind (arith, nat_tests)

glyph_else : (t : Bool) (d : ℕ) → nat_lt d 10 ≡ t → (cond t (48 + d) (87 + d) == 83) ≡ false
glyph_else true d h = grind (arith, nat_tests, h)
glyph_else false d h = grind (arith, nat_tests, h)

feed_if : (t : Bool) (a b : List ℕ) → NoFeed a → NoFeed b → NoFeed (cond t a b)
feed_if true a b f g = f
feed_if false a b f g = g

onto_feed : (k n : ℕ) (acc : List ℕ) → NoFeed acc → NoFeed (digits_onto k 10 false n acc)
onto_feed zero n acc h = h
onto_feed (suc k) n acc h =
    let d = n % 10 in
    let here = glyph_feed (nat_lt d 10) d in
    feed_if (n / 10 == 0) (digit_glyph false d ∷ acc) (digits_onto k 10 false (n / 10) (digit_glyph false d ∷ acc)) (here, h) (onto_feed k (n / 10) (digit_glyph false d ∷ acc) (here, h))

else_if : (t : Bool) (a b : List ℕ) → BeginsElse a → BeginsElse b → BeginsElse (cond t a b)
else_if true a b f g = f
else_if false a b f g = g

onto_else : (k n : ℕ) (acc : List ℕ) → BeginsElse acc → BeginsElse (digits_onto k 10 false n acc)
onto_else zero n acc h = h
onto_else (suc k) n acc h =
    let d = n % 10 in
    let here = glyph_else (nat_lt d 10) d refl in
    else_if (n / 10 == 0) (digit_glyph false d ∷ acc) (digits_onto k 10 false (n / 10) (digit_glyph false d ∷ acc)) here (onto_else k (n / 10) (digit_glyph false d ∷ acc) here)

first_else : (k n : ℕ) → BeginsElse (digits_onto (suc k) 10 false n [])
first_else k n =
    let d = n % 10 in
    let here = glyph_else (nat_lt d 10) d refl in
    else_if (n / 10 == 0) (digit_glyph false d ∷ []) (digits_onto k 10 false (n / 10) (digit_glyph false d ∷ [])) here (onto_else k (n / 10) (digit_glyph false d ∷ []) here)

long_if : (t : Bool) (a b : List ℕ) (m : ℕ) → (t ≡ true → length a ≡ m) → (t ≡ false → length b ≡ m) → length (cond t a b) ≡ m
long_if true a b m f g = f refl
long_if false a b m f g = g refl

-- as many digits as there is room for, where the number has as many
onto_long : (k n : ℕ) (acc : List ℕ) → 10 ^ k ≤ n → length (digits_onto (suc k) 10 false n acc) ≡ suc k + length acc
onto_long zero n acc h = long_if (n / 10 == 0) _ _ _ (λ e. omega arith) (λ e. omega arith)
onto_long (suc k) n acc h =
    let d = n % 10 in
    let more = pow-suc 10 k in
    let pos = one-le-pow k 10 (omega arith) in
    let rest : 10 ^ k ≤ n / 10 = (le-div_iff_mul-le {k = 10} {x = 10 ^ k} {y = n} (omega arith)).1 (omega (arith, h, more)) in
    long_if (n / 10 == 0) _ _ _ (λ e. absurd (grind (arith, nat_tests, e, pos, rest))) (λ e. onto_long k (n / 10) (digit_glyph false d ∷ acc) rest ∙ omega arith)

-- the same of numbers as they are written, however great
pub decimal_feed : (n : ℕ) → NoFeed (decimal n)
unfolding digits
decimal_feed n = onto_feed 64 n [] tt

pub decimal_else : (n : ℕ) → BeginsElse (decimal n)
unfolding digits
decimal_else n = first_else 63 n

decimal_long : (n : ℕ) → 10 ^ 63 ≤ n → length (decimal n) ≡ 64
unfolding digits
decimal_long n h = onto_long 63 n [] h

same_at : (n v : ℕ) (t : Bool) → nat_lt n (10 ^ 64) ≡ t → v < 2 ^ 64 → decimal n ≡ decimal v → n ≡ v
same_at n v true low small same =
    let lower : n < 10 ^ 64 = grind (arith, nat_tests, low) in
    let small' : v < 10 ^ 64 = omega (arith, small) in
    sym (decimal_is_IsNumeral_wide n lower).1 ∙ ap (digits_value 10) same ∙ (decimal_is_IsNumeral_wide v small').1
same_at n v false low small same =
    let high : 10 ^ 63 ≤ n = grind (arith, nat_tests, low) in
    absurd (omega (arith, decimal_long n high, ap length same, length-decimal-le 20 v (omega arith) (omega (arith, small)) small))

-- a number below 2 ^ 64 is the only one with its digits
pub decimal_same : (n v : ℕ) → v < 2 ^ 64 → decimal n ≡ decimal v → n ≡ v
decimal_same n v small same = same_at n v (nat_lt n (10 ^ 64)) refl small same
