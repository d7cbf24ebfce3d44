-- How far a number goes.
use Rattle.std.proofs.Common.{◌≡◌, ◌+◌, ◌-◌, ◌*◌, ◌^◌, ◌≤◌, ◌<◌, ℕ, suc, List, [], ◌∷◌, ◌++◌, length, Bool, true, false, ◌||◌, ◌==◌, inl, inr, refl, sym, ap, ◌∙◌, arith, add-zero, if◌then◌else◌}
use Rattle.std.proofs.lemmas.Bool.{and_parts, cases_Bool}
use Rattle.std.specs.Prelude.{nat_lt}
use Rattle.std.proofs.lemmas.Bool.Decides.{nat_tests}
use Rattle.std.proofs.Math.Nat.{pow-le-pow_right, pow-suc}
use Rattle.std.specs.List.{list_all}
use Rattle.dms_tokens.specs.declared.token.Token.TheVariants.{Number, Decimal, Long}
use Rattle.dms_tokens.specs.declared.token.Token.{Token}
use Rattle.dms_tokens.specs.declared.reading.Digits.{Digits}
use Rattle.dms_tokens.specs.declared.reading.Reading.TheVariants.{Between, Whole, Fraction}
use Rattle.dms_tokens.specs.Lexing.{with_digit, counted_on}
use Rattle.dms_tokens.specs.Tokens.{lexeme, tokens_from, first_digit, whole_digit, point_digit, number_token, fresh_byte, byte_turn, whole_byte, point_byte, fraction_byte, end_turn}
use Rattle.dms_tokens.specs.Spelling.{value_from, behind_point, number_of}
use Rattle.dms_tokens.proofs.WordScan.{stopped, one_more, never, is_byte}
use Rattle.dms_base.specs.Words.{is_digit}

-- digits that were read before a point, and behind it
abbrev pub wholes : Digits → List ℕ → Digits
wholes d [] = d
wholes d (b ∷ bs) = wholes (whole_digit d b) bs

abbrev pub fractions : Digits → List ℕ → Digits
fractions d [] = d
fractions d (b ∷ bs) = fractions (point_digit d b) bs

-- digits are held as these: with a sign or without, negative or not, so many, so many of them behind the point, and of
-- this value
pub record HoldsDigits (d : Digits) (s m : Bool) (n p v : ℕ) : Type 0 where
  pub signed : d.signed ≡ s
  pub negative : d.minus ≡ m
  pub within : p ≤ n
  pub few : n ≤ 18 → (d.count ≡ n) × (d.places ≡ p) × (d.value ≡ v) × (v < 10 ^ n)
  pub many : 18 < n → d.count ≡ 19

grown : (v n c : ℕ) → v < 10 ^ n → c < 10 → 10 * v + c < 10 ^ (n + 1)
grown v n c h l = let e : 10 ^ suc n ≡ 10 ^ n * 10 = pow-suc 10 n in let k : n + 1 ≡ suc n = omega arith in rw k (rw e (omega arith))

bounded : (v n : ℕ) → v < 10 ^ n → n ≤ 17 → v < 100000000000000000
bounded v n h l = let m : 10 ^ n ≤ 10 ^ 17 = pow-le-pow_right (omega arith) l in omega arith

with_one : (v b : ℕ) → v < 100000000000000000 → with_digit v b ≡ 10 * v + (b - 48)
with_one v b h = let t : nat_lt v 100000000000000000 ≡ true = grind (arith, nat_tests) in rw t refl

digit_value : (b : ℕ) → is_digit b ≡ true → b - 48 < 10
digit_value b h = grind (arith, nat_tests)

count_few : (n : ℕ) → n ≤ 18 → counted_on n ≡ n + 1
count_few n h = let t : nat_lt n 19 ≡ true = grind (arith, nat_tests) in rw t refl

count_full : (c n : ℕ) → (n ≤ 18 → c ≡ n) → (18 < n → c ≡ 19) → 18 < n + 1 → counted_on c ≡ 19
count_full c n few many h =
    elim (cases_Bool (nat_lt 18 n)) [
      | inl t ↦ let l : 18 < n = grind (arith, nat_tests) in rw (many l) refl
      | inr f ↦ let l : n ≤ 18 = grind (arith, nat_tests) in let e : n ≡ 18 = omega arith in rw (few l, e) refl
    ]

-- one more digit before the point
held_whole : (d : Digits) (s m : Bool) (n p v b : ℕ) → is_digit b ≡ true → HoldsDigits d s m n p v → HoldsDigits (whole_digit d b) s m (n + 1) p (10 * v + (b - 48))
held_whole d s m n p v b i h = record {
  signed = h.signed;
  negative = h.negative;
  within = let w = h.within in omega arith;
  few = λ l.
      let f = h.few (omega arith) in
      let c : counted_on d.count ≡ n + 1 = rw (f.0) (count_few n (omega arith)) in
      let w : with_digit d.value b ≡ 10 * v + (b - 48) = rw (f.2) (with_one v b (bounded v n f.3 (omega arith))) in
      (c, f.1, w, grown v n (b - 48) f.3 (digit_value b i));
  many = λ l. count_full d.count n (λ k. (h.few k).0) h.many l;
}

-- one more digit behind the point
held_point : (d : Digits) (s m : Bool) (n p v b : ℕ) → is_digit b ≡ true → HoldsDigits d s m n p v → HoldsDigits (point_digit d b) s m (n + 1) (p + 1) (10 * v + (b - 48))
held_point d s m n p v b i h = record {
  signed = h.signed;
  negative = h.negative;
  within = let w = h.within in omega arith;
  few = λ l.
      let within = h.within in
      let f = h.few (omega arith) in
      let c : counted_on d.count ≡ n + 1 = rw (f.0) (count_few n (omega arith)) in
      let q : counted_on d.places ≡ p + 1 = rw (f.1) (count_few p (omega arith)) in
      let w : with_digit d.value b ≡ 10 * v + (b - 48) = rw (f.2) (with_one v b (bounded v n f.3 (omega arith))) in
      (c, q, w, grown v n (b - 48) f.3 (digit_value b i));
  many = λ l. count_full d.count n (λ k. (h.few k).0) h.many l;
}

held_wholes : (ws : List ℕ) (d : Digits) (s m : Bool) (n p v : ℕ) → list_all is_digit ws ≡ true → HoldsDigits d s m n p v → HoldsDigits (wholes d ws) s m (n + length ws) p (value_from v ws)
held_wholes [] d s m n p v i h = rw (add-zero) h
held_wholes (b ∷ bs) d s m n p v i h = rw (← one_more n (length bs)) (held_wholes bs (whole_digit d b) s m (n + 1) p (10 * v + (b - 48)) (and_parts (is_digit b) _ i).1 (held_whole d s m n p v b (and_parts (is_digit b) _ i).0 h))

held_fractions : (fs : List ℕ) (d : Digits) (s m : Bool) (n p v : ℕ) → list_all is_digit fs ≡ true → HoldsDigits d s m n p v → HoldsDigits (fractions d fs) s m (n + length fs) (p + length fs) (value_from v fs)
held_fractions [] d s m n p v i h = rw (add-zero, add-zero) h
held_fractions (b ∷ bs) d s m n p v i h = rw (← one_more n (length bs), ← one_more p (length bs)) (held_fractions bs (point_digit d b) s m (n + 1) (p + 1) (10 * v + (b - 48)) (and_parts (is_digit b) _ i).1 (held_point d s m n p v b (and_parts (is_digit b) _ i).0 h))

held_first : (s m : Bool) (b : ℕ) → is_digit b ≡ true → HoldsDigits (first_digit s m b) s m 1 0 (10 * 0 + (b - 48))
held_first s m b i = record {
  signed = refl;
  negative = refl;
  within = omega arith;
  few = λ l. let e : b - 48 ≡ 10 * 0 + (b - 48) = omega arith in let small = digit_value b i in (refl, refl, e, omega arith);
  many = λ l. absurd (omega arith);
}

value-append : (v : ℕ) (xs ys : List ℕ) → value_from v (xs ++ ys) ≡ value_from (value_from v xs) ys
value-append v [] ys = refl
value-append v (x ∷ xs) ys = value-append (10 * v + (x - 48)) xs ys

abbrev token_by : Bool → Bool → ℕ → ℕ → ℕ → Token
token_by s m n p v = if nat_lt 18 n then Long else (if s || nat_lt 0 p then Decimal m v p else Number v)

token_is : (d : Digits) (s m : Bool) (n p v : ℕ) → HoldsDigits d s m n p v → number_token d ≡ token_by s m n p v
token_is d s m n p v h =
    elim (cases_Bool (nat_lt 18 n)) [
      | inl t ↦ let l : 18 < n = grind (arith, nat_tests) in rw (t, h.many l) refl
      | inr f ↦ let l : n ≤ 18 = grind (arith, nat_tests) in let k = h.few l in rw (k.0, k.1, k.2, h.signed, h.negative) refl
    ]

-- what was read of a number is the number
pub number_is : (s m : Bool) (b : ℕ) (ws fs : List ℕ) → is_digit b ≡ true → list_all is_digit ws ≡ true → list_all is_digit fs ≡ true → number_token (fractions (wholes (first_digit s m b) ws) fs) ≡ number_of s m (b ∷ ws) fs
number_is s m b ws fs i j k =
    let h = held_fractions fs (wholes (first_digit s m b) ws) s m (1 + length ws) 0 (value_from (10 * 0 + (b - 48)) ws) k (held_wholes ws (first_digit s m b) s m 1 0 (10 * 0 + (b - 48)) j (held_first s m b i)) in
    let n : 1 + length ws + length fs ≡ suc (length ws) + length fs = omega arith in
    let p : 0 + length fs ≡ length fs = omega arith in
    token_is _ s m _ _ _ h ∙ rw (n, p, ← value-append (10 * 0 + (b - 48)) ws fs) refl

-- no digit stands first
abbrev pub NoDigit : List ℕ → Type 0
NoDigit rest = (b : ℕ) (bs : List ℕ) → rest ≡ b ∷ bs → is_digit b ≡ false

pub no_digit : (b : ℕ) (bs : List ℕ) → is_digit b ≡ false → NoDigit (b ∷ bs)
no_digit b bs f c cs e = let k : b ≡ c = cc in rw (← k) f

pub nil_digit : NoDigit []
nil_digit c cs e = absurd (cc)

-- how far the digits behind a point go
pub record FractionScan (text : List ℕ) : Type 0 where
  pub more : List ℕ
  pub rest : List ℕ
  pub cut : text ≡ more ++ rest
  pub digits : list_all is_digit more ≡ true
  pub ends : NoDigit rest
  pub reads : (start place : ℕ) (d : Digits) → tokens_from (Fraction start d) place text ≡ lexeme (number_token (fractions d more)) start ∷ tokens_from Between (place + length more) rest

fraction_end : (start place : ℕ) (d : Digits) → tokens_from (Fraction start d) place [] ≡ lexeme (number_token d) start ∷ tokens_from Between (place + 0) []
unfolding end_turn
fraction_end start place d = rw add-zero refl

fraction_read : (b : ℕ) (bs : List ℕ) (start place : ℕ) (d : Digits) → is_digit b ≡ true → tokens_from (Fraction start d) place (b ∷ bs) ≡ tokens_from (Fraction start (point_digit d b)) (place + 1) bs
unfolding byte_turn fraction_byte
fraction_read b bs start place d i = rw i refl

fraction_stop : (b : ℕ) (bs : List ℕ) (start place : ℕ) (d : Digits) → is_digit b ≡ false → tokens_from (Fraction start d) place (b ∷ bs) ≡ lexeme (number_token d) start ∷ tokens_from Between (place + 0) (b ∷ bs)
unfolding byte_turn fraction_byte
fraction_stop b bs start place d i = rw (i, add-zero) refl

fraction_on : (b : ℕ) (bs : List ℕ) → is_digit b ≡ true → FractionScan bs → FractionScan (b ∷ bs)
fraction_on b bs i s = record {
  more = b ∷ s.more;
  rest = s.rest;
  cut = ap (λ (xs : List ℕ). b ∷ xs) s.cut;
  digits = rw i s.digits;
  ends = s.ends;
  reads = λ start place d. fraction_read b bs start place d i ∙ s.reads start (place + 1) (point_digit d b) ∙ rw (one_more place (length s.more)) refl;
}

pub fraction_scan : (text : List ℕ) → FractionScan text
fraction_scan [] = record { more = []; rest = []; cut = refl; digits = refl; ends = nil_digit; reads = fraction_end }
fraction_scan (b ∷ bs) =
    elim (cases_Bool (is_digit b)) [
      | inl i ↦ fraction_on b bs i (fraction_scan bs)
      | inr f ↦ record { more = []; rest = b ∷ bs; cut = refl; digits = refl; ends = no_digit b bs f; reads = λ start place d. fraction_stop b bs start place d f }
    ]

-- how far a number's digits go, and those behind its point
pub record NumberScan (text : List ℕ) : Type 0 where
  pub whole : List ℕ
  pub fraction : List ℕ
  pub rest : List ℕ
  pub cut : text ≡ whole ++ (behind_point fraction ++ rest)
  pub digits : list_all is_digit whole ≡ true
  pub decimals : list_all is_digit fraction ≡ true
  pub ends : NoDigit rest
  pub no_point : fraction ≡ [] → (bs : List ℕ) → rest ≡ 46 ∷ bs → NoDigit bs
  pub reads : (start place : ℕ) (d : Digits) → tokens_from (Whole start d) place text ≡ lexeme (number_token (fractions (wholes d whole) fraction)) start ∷ tokens_from Between (place + (length whole + length (behind_point fraction))) rest

whole_end : (start place : ℕ) (d : Digits) → tokens_from (Whole start d) place [] ≡ lexeme (number_token d) start ∷ tokens_from Between (place + 0) []
unfolding end_turn
whole_end start place d = rw add-zero refl

whole_read : (b : ℕ) (bs : List ℕ) (start place : ℕ) (d : Digits) → is_digit b ≡ true → tokens_from (Whole start d) place (b ∷ bs) ≡ tokens_from (Whole start (whole_digit d b)) (place + 1) bs
unfolding byte_turn whole_byte
whole_read b bs start place d i = rw i refl

whole_stop : (b : ℕ) (bs : List ℕ) (start place : ℕ) (d : Digits) → is_digit b ≡ false → b == 46 ≡ false → tokens_from (Whole start d) place (b ∷ bs) ≡ lexeme (number_token d) start ∷ tokens_from Between (place + 0) (b ∷ bs)
unfolding byte_turn whole_byte
whole_stop b bs start place d i f = rw (i, f, add-zero) refl

point_read : (b : ℕ) (bs : List ℕ) (start place : ℕ) (d : Digits) → is_digit b ≡ true → tokens_from (Whole start d) place (46 ∷ b ∷ bs) ≡ tokens_from (Fraction start (point_digit d b)) (place + 1 + 1) bs
unfolding byte_turn whole_byte point_byte
point_read b bs start place d i = rw i refl

point_stop : (bs : List ℕ) (start place : ℕ) (d : Digits) → NoDigit bs → tokens_from (Whole start d) place (46 ∷ bs) ≡ lexeme (number_token d) start ∷ tokens_from Between (place + 0) (46 ∷ bs)
unfolding byte_turn whole_byte point_byte fresh_byte end_turn
point_stop [] start place d f = rw add-zero refl
point_stop (b ∷ bs) start place d f = rw (f b bs refl, stopped (place + 1 + 1) bs, stopped (place + 0 + 1) (b ∷ bs), add-zero) refl

whole_on : (b : ℕ) (bs : List ℕ) → is_digit b ≡ true → NumberScan bs → NumberScan (b ∷ bs)
whole_on b bs i s = record {
  whole = b ∷ s.whole;
  fraction = s.fraction;
  rest = s.rest;
  cut = ap (λ (xs : List ℕ). b ∷ xs) s.cut;
  digits = rw i s.digits;
  decimals = s.decimals;
  ends = s.ends;
  no_point = s.no_point;
  reads = λ start place d. whole_read b bs start place d i ∙ s.reads start (place + 1) (whole_digit d b) ∙ (let e : place + 1 + (length s.whole + length (behind_point s.fraction)) ≡ place + (suc (length s.whole) + length (behind_point s.fraction)) = omega arith in rw e refl);
}

pointed : (b : ℕ) (bs : List ℕ) → is_digit b ≡ true → FractionScan bs → NumberScan (46 ∷ b ∷ bs)
pointed b bs i s = record {
  whole = [];
  fraction = b ∷ s.more;
  rest = s.rest;
  cut = ap (λ (xs : List ℕ). 46 ∷ b ∷ xs) s.cut;
  digits = refl;
  decimals = rw i s.digits;
  ends = s.ends;
  no_point = λ e. absurd (cc);
  reads = λ start place d. point_read b bs start place d i ∙ s.reads start (place + 1 + 1) (point_digit d b) ∙ (let e : place + 1 + 1 + length s.more ≡ place + (0 + suc (suc (length s.more))) = omega arith in rw e refl);
}

unpointed : (bs : List ℕ) → NoDigit bs → NumberScan (46 ∷ bs)
unpointed bs f = record {
  whole = [];
  fraction = [];
  rest = 46 ∷ bs;
  cut = refl;
  digits = refl;
  decimals = refl;
  ends = no_digit 46 bs refl;
  no_point = λ e cs k. let same : bs ≡ cs = cc in rw (← same) f;
  reads = λ start place d. point_stop bs start place d f;
}

at_point : (bs : List ℕ) → NumberScan (46 ∷ bs)
at_point [] = unpointed [] nil_digit
at_point (b ∷ bs) =
    elim (cases_Bool (is_digit b)) [
      | inl i ↦ pointed b bs i (fraction_scan bs)
      | inr f ↦ unpointed (b ∷ bs) (no_digit b bs f)
    ]

whole_other : (b : ℕ) (bs : List ℕ) → is_digit b ≡ false → b == 46 ≡ false → NumberScan (b ∷ bs)
whole_other b bs i f = record {
  whole = [];
  fraction = [];
  rest = b ∷ bs;
  cut = refl;
  digits = refl;
  decimals = refl;
  ends = no_digit b bs i;
  no_point = λ e cs k. let same : b ≡ 46 = cc in absurd (never (46 == 46) refl (ap (λ (x : ℕ). x == 46) (sym same) ∙ f));
  reads = λ start place d. whole_stop b bs start place d i f;
}

pub number_scan : (text : List ℕ) → NumberScan text
number_scan [] = record { whole = []; fraction = []; rest = []; cut = refl; digits = refl; decimals = refl; ends = nil_digit; no_point = λ e cs k. absurd (cc); reads = whole_end }
number_scan (b ∷ bs) =
    elim (cases_Bool (is_digit b)) [
      | inl i ↦ whole_on b bs i (number_scan bs)
      | inr f ↦ elim (cases_Bool (b == 46)) [
        | inl p ↦ rw (is_byte b 46 p) (at_point bs)
        | inr q ↦ whole_other b bs f q
      ]
    ]
