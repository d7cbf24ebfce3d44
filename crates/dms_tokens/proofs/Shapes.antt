-- What a token's bytes are, by the first of them.
use Rattle.std.proofs.Common.{◌≡◌, ◌≤◌, ◌<◌, ℕ, List, [], ◌∷◌, ◌++◌, map, length, Bool, true, false, ◌||◌, ◌&&◌, ◌==◌, ◌⊎◌, inl, inr, refl, ap, ◌∙◌, arith, if◌then◌else◌}
use Rattle.std.proofs.lemmas.Bool.{and_parts, or_cases, cases_Bool}
use Rattle.std.specs.Prelude.{nat_le}
use Rattle.std.proofs.lemmas.Bool.Decides.{nat_tests}
use Rattle.std.specs.List.{list_all}
use Rattle.dms_base.specs.declared.op.Op.{Op}
use Rattle.dms_base.specs.declared.op.Op.TheVariants.{Equal, NotEqual, Less, LessEqual, Greater, GreaterEqual}
use Rattle.dms_tokens.specs.declared.token.Token.{Token}
use Rattle.dms_tokens.specs.declared.token.Token.TheVariants.{Word, Quoted, Sign, Compare}
use Rattle.dms_tokens.specs.Lexing.{is_blank, upper, is_letter, is_sign}
use Rattle.dms_tokens.specs.Spelling.{goes_on, behind_point, number_of, op_text, IsSigned, SpellsToken}
use Rattle.dms_tokens.specs.Spelling.IsSigned.{no_sign, with_plus, with_minus}
use Rattle.dms_tokens.specs.Spelling.SpellsToken.{a_word, a_number, a_string, a_sign, a_comparison}
use Rattle.dms_tokens.proofs.WordScan.{is_byte}
use Rattle.dms_base.specs.Texts.{double_quotes}
use Rattle.dms_base.specs.Words.{is_digit}
use Rattle.dms_base.specs.Text.{is_printable}

-- what may begin with a byte: 1 a word, 2 to 4 a number, 5 a string, 6 a sign, 7 to 9 a comparison, 0 nothing; 10 is a
-- blank's and 11 that of a comment
abbrev pub class_of : ℕ → ℕ
class_of b =
    if is_blank b then 10
    else (if b == 37 then 11
    else (if is_letter b then 1
    else (if is_digit b then 2
    else (if b == 43 then 3
    else (if b == 45 then 4
    else (if b == 34 then 5
    else (if is_sign b then 6
    else (if b == 61 then 7
    else (if b == 60 then 8
    else (if b == 62 then 9
    else 0))))))))))

pub letter_above : (b : ℕ) → is_letter b ≡ true → 65 ≤ b
letter_above b h = elim (cases_Bool (nat_le 97 b && nat_le b 122)) [
  | inl t ↦ let k : nat_le 97 b ≡ true = (and_parts (nat_le 97 b) _ t).0 in grind (arith, nat_tests)
  | inr f ↦ let k : nat_le 65 b ≡ true = (and_parts (nat_le 65 b) _ (rw f at h)).0 in grind (arith, nat_tests)
]

pub letter_below : (b : ℕ) → is_letter b ≡ true → b ≤ 122
letter_below b h = elim (cases_Bool (nat_le 97 b && nat_le b 122)) [
  | inl t ↦ let k : nat_le b 122 ≡ true = (and_parts (nat_le 97 b) _ t).1 in grind (arith, nat_tests)
  | inr f ↦ let k : nat_le b 90 ≡ true = (and_parts (nat_le 65 b) _ (rw f at h)).1 in grind (arith, nat_tests)
]

apart : (b c : ℕ) → c < b → b == c ≡ false
apart b c l = grind (arith, nat_tests)

pub letter_class : (b : ℕ) → is_letter b ≡ true → class_of b ≡ 1
letter_class b h =
    let l = letter_above b h in
    rw (apart b 32 (omega arith), apart b 9 (omega arith), apart b 13 (omega arith), apart b 10 (omega arith), apart b 37 (omega arith), h) refl

digit_no_letter : (b : ℕ) → is_digit b ≡ true → is_letter b ≡ false
digit_no_letter b h = elim (cases_Bool (is_letter b)) [
  | inl t ↦ let l = letter_above b t in let k : nat_le b 57 ≡ true = (and_parts (nat_le 48 b) _ h).1 in absurd (grind (arith, nat_tests))
  | inr f ↦ f
]

pub digit_class : (b : ℕ) → is_digit b ≡ true → class_of b ≡ 2
digit_class b h =
    let k : nat_le 48 b ≡ true = (and_parts (nat_le 48 b) _ h).0 in
    let l : 48 ≤ b = grind (arith, nat_tests) in
    rw (apart b 32 (omega arith), apart b 9 (omega arith), apart b 13 (omega arith), apart b 10 (omega arith), apart b 37 (omega arith), digit_no_letter b h, h) refl

at_byte : (b c n : ℕ) → b == c ≡ true → class_of c ≡ n → class_of b ≡ n
at_byte b c n h e = ap class_of (is_byte b c h) ∙ e

pub sign_class : (b : ℕ) → is_sign b ≡ true → class_of b ≡ 6
sign_class b h = elim (or_cases (b == 40 || b == 41 || b == 44) (b == 59) h) [
  | inr d ↦ at_byte b 59 6 d refl
  | inl k ↦ elim (or_cases (b == 40 || b == 41) (b == 44) k) [
    | inr d ↦ at_byte b 44 6 d refl
    | inl l ↦ elim (or_cases (b == 40) (b == 41) l) [
      | inr d ↦ at_byte b 41 6 d refl
      | inl d ↦ at_byte b 40 6 d refl
    ]
  ]
]

pub blank_class : (b : ℕ) → is_blank b ≡ true → class_of b ≡ 10
blank_class b h = rw h refl

-- a token's bytes by their first one
pub data TokenShape : ℕ → List ℕ → Token → Type 0 where
  word_shape : (b : ℕ) (bs : List ℕ) → is_letter b ≡ true → goes_on false bs ≡ true → TokenShape b bs (Word (map upper (b ∷ bs)))
  number_shape : (b : ℕ) (ws fs : List ℕ) → is_digit b ≡ true → list_all is_digit ws ≡ true → list_all is_digit fs ≡ true → TokenShape b (ws ++ behind_point fs) (number_of false false (b ∷ ws) fs)
  plus_shape : (b : ℕ) (ws fs : List ℕ) → is_digit b ≡ true → list_all is_digit ws ≡ true → list_all is_digit fs ≡ true → TokenShape 43 (b ∷ (ws ++ behind_point fs)) (number_of true false (b ∷ ws) fs)
  minus_shape : (b : ℕ) (ws fs : List ℕ) → is_digit b ≡ true → list_all is_digit ws ≡ true → list_all is_digit fs ≡ true → TokenShape 45 (b ∷ (ws ++ behind_point fs)) (number_of true true (b ∷ ws) fs)
  string_shape : (text : List ℕ) → list_all is_printable text ≡ true → length text ≤ 200 → TokenShape 34 (double_quotes text ++ 34 ∷ []) (Quoted text)
  sign_shape : (b : ℕ) → is_sign b ≡ true → TokenShape b [] (Sign b)
  equal_shape : TokenShape 61 [] (Compare Equal)
  less_shape : TokenShape 60 [] (Compare Less)
  less_equal_shape : TokenShape 60 (61 ∷ []) (Compare LessEqual)
  not_equal_shape : TokenShape 60 (62 ∷ []) (Compare NotEqual)
  greater_shape : TokenShape 62 [] (Compare Greater)
  greater_equal_shape : TokenShape 62 (61 ∷ []) (Compare GreaterEqual)

pub record Shaped (xs : List ℕ) (t : Token) : Type 0 where
  pub first : ℕ
  pub others : List ℕ
  pub all : xs ≡ first ∷ others
  pub shape : TokenShape first others t

number_shaped : (s : List ℕ) (g m : Bool) (b : ℕ) (ws fs : List ℕ) → IsSigned s g m → is_digit b ≡ true → list_all is_digit ws ≡ true → list_all is_digit fs ≡ true → Shaped (s ++ (b ∷ (ws ++ behind_point fs))) (number_of g m (b ∷ ws) fs)
number_shaped _ _ _ b ws fs no_sign i j k = record { first = b; others = ws ++ behind_point fs; all = refl; shape = number_shape b ws fs i j k }
number_shaped _ _ _ b ws fs with_plus i j k = record { first = 43; others = b ∷ (ws ++ behind_point fs); all = refl; shape = plus_shape b ws fs i j k }
number_shaped _ _ _ b ws fs with_minus i j k = record { first = 45; others = b ∷ (ws ++ behind_point fs); all = refl; shape = minus_shape b ws fs i j k }

op_shaped : (op : Op) → Shaped (op_text op) (Compare op)
op_shaped Equal = record { first = 61; others = []; all = refl; shape = equal_shape }
op_shaped NotEqual = record { first = 60; others = 62 ∷ []; all = refl; shape = not_equal_shape }
op_shaped Less = record { first = 60; others = []; all = refl; shape = less_shape }
op_shaped LessEqual = record { first = 60; others = 61 ∷ []; all = refl; shape = less_equal_shape }
op_shaped Greater = record { first = 62; others = []; all = refl; shape = greater_shape }
op_shaped GreaterEqual = record { first = 62; others = 61 ∷ []; all = refl; shape = greater_equal_shape }

shaped : (xs : List ℕ) (t : Token) → SpellsToken xs t → Shaped xs t
shaped _ _ (a_word b bs l g) = record { first = b; others = bs; all = refl; shape = word_shape b bs l g }
shaped _ _ (a_number s g m b ws fs d i j k) = number_shaped s g m b ws fs d i j k
shaped _ _ (a_string text p l) = record { first = 34; others = double_quotes text ++ 34 ∷ []; all = refl; shape = string_shape text p l }
shaped _ _ (a_sign b i) = record { first = b; others = []; all = refl; shape = sign_shape b i }
shaped _ _ (a_comparison op) = op_shaped op

moved : (c b : ℕ) (cs bs : List ℕ) (t : Token) → c ≡ b → cs ≡ bs → TokenShape c cs t → TokenShape b bs t
moved c b cs bs t e f s = rw (← e, ← f) s

-- the shape of bytes whose first one is known
pub shape_of : (b : ℕ) (bs : List ℕ) (t : Token) → SpellsToken (b ∷ bs) t → TokenShape b bs t
shape_of b bs t d = let s = shaped (b ∷ bs) t d in moved s.first b s.others bs t (cc) (cc) s.shape

pub nothing_spelled : (t : Token) → SpellsToken [] t → ⊥
nothing_spelled t d = let s = shaped [] t d in let e : [] ≡ s.first ∷ s.others = s.all in cc

-- no token begins with a byte of another class
pub shape_class : (b : ℕ) (bs : List ℕ) (t : Token) → TokenShape b bs t → (1 ≤ class_of b) × (class_of b ≤ 9)
shape_class _ _ _ (word_shape b bs l g) = let e = letter_class b l in (omega arith, omega arith)
shape_class _ _ _ (number_shape b ws fs i j k) = let e = digit_class b i in (omega arith, omega arith)
shape_class _ _ _ (plus_shape b ws fs i j k) = (omega arith, omega arith)
shape_class _ _ _ (minus_shape b ws fs i j k) = (omega arith, omega arith)
shape_class _ _ _ (string_shape text p l) = (omega arith, omega arith)
shape_class _ _ _ (sign_shape b i) = let e = sign_class b i in (omega arith, omega arith)
shape_class _ _ _ equal_shape = (omega arith, omega arith)
shape_class _ _ _ less_shape = (omega arith, omega arith)
shape_class _ _ _ less_equal_shape = (omega arith, omega arith)
shape_class _ _ _ not_equal_shape = (omega arith, omega arith)
shape_class _ _ _ greater_shape = (omega arith, omega arith)
shape_class _ _ _ greater_equal_shape = (omega arith, omega arith)

-- a letter begins a word alone
pub word_is : (b : ℕ) (bs : List ℕ) (t : Token) → TokenShape b bs t → is_letter b ≡ true → (goes_on false bs ≡ true) × (t ≡ Word (map upper (b ∷ bs)))
word_is _ _ _ (word_shape b bs l g) h = (g, refl)
word_is _ _ _ (number_shape b ws fs i j k) h = let e = digit_class b i in let f = letter_class b h in absurd (omega arith)
word_is _ _ _ (plus_shape b ws fs i j k) h = absurd (cc)
word_is _ _ _ (minus_shape b ws fs i j k) h = absurd (cc)
word_is _ _ _ (string_shape text p l) h = absurd (cc)
word_is _ _ _ (sign_shape b i) h = let e = sign_class b i in let f = letter_class b h in absurd (omega arith)
word_is _ _ _ equal_shape h = absurd (cc)
word_is _ _ _ less_shape h = absurd (cc)
word_is _ _ _ less_equal_shape h = absurd (cc)
word_is _ _ _ not_equal_shape h = absurd (cc)
word_is _ _ _ greater_shape h = absurd (cc)
word_is _ _ _ greater_equal_shape h = absurd (cc)

-- what is behind a number's first digit
pub record Tail (g m : Bool) (b : ℕ) (bs : List ℕ) (t : Token) : Type 0 where
  pub ws : List ℕ
  pub fs : List ℕ
  pub all : bs ≡ ws ++ behind_point fs
  pub digit : is_digit b ≡ true
  pub digits : list_all is_digit ws ≡ true
  pub decimals : list_all is_digit fs ≡ true
  pub token : t ≡ number_of g m (b ∷ ws) fs

pub number_shape_is : (b : ℕ) (bs : List ℕ) (t : Token) → TokenShape b bs t → is_digit b ≡ true → Tail false false b bs t
number_shape_is _ _ _ (number_shape b ws fs i j k) h = record { ws = ws; fs = fs; all = refl; digit = i; digits = j; decimals = k; token = refl }
number_shape_is _ _ _ (word_shape b bs l g) h = let e = letter_class b l in let f = digit_class b h in absurd (omega arith)
number_shape_is _ _ _ (plus_shape b ws fs i j k) h = absurd (cc)
number_shape_is _ _ _ (minus_shape b ws fs i j k) h = absurd (cc)
number_shape_is _ _ _ (string_shape text p l) h = absurd (cc)
number_shape_is _ _ _ (sign_shape b i) h = let e = sign_class b i in let f = digit_class b h in absurd (omega arith)
number_shape_is _ _ _ equal_shape h = absurd (cc)
number_shape_is _ _ _ less_shape h = absurd (cc)
number_shape_is _ _ _ less_equal_shape h = absurd (cc)
number_shape_is _ _ _ not_equal_shape h = absurd (cc)
number_shape_is _ _ _ greater_shape h = absurd (cc)
number_shape_is _ _ _ greater_equal_shape h = absurd (cc)

-- a sign, and the number behind it
pub record Signs (g m : Bool) (bs : List ℕ) (t : Token) : Type 0 where
  pub first : ℕ
  pub others : List ℕ
  pub all : bs ≡ first ∷ others
  pub tail : Tail g m first others t

signs_by : (m : Bool) (b : ℕ) (ws fs : List ℕ) → is_digit b ≡ true → list_all is_digit ws ≡ true → list_all is_digit fs ≡ true → Signs true m (b ∷ (ws ++ behind_point fs)) (number_of true m (b ∷ ws) fs)
signs_by m b ws fs i j k = record { first = b; others = ws ++ behind_point fs; all = refl; tail = record { ws = ws; fs = fs; all = refl; digit = i; digits = j; decimals = k; token = refl } }

pub plus_is : (b : ℕ) (bs : List ℕ) (t : Token) → TokenShape b bs t → class_of b ≡ 3 → Signs true false bs t
plus_is _ _ _ (plus_shape b ws fs i j k) h = signs_by false b ws fs i j k
plus_is _ _ _ (number_shape b ws fs i j k) h = let e = digit_class b i in absurd (omega arith)
plus_is _ _ _ (word_shape b bs l g) h = let e = letter_class b l in absurd (omega arith)
plus_is _ _ _ (minus_shape b ws fs i j k) h = absurd (omega arith)
plus_is _ _ _ (string_shape text p l) h = absurd (omega arith)
plus_is _ _ _ (sign_shape b i) h = let e = sign_class b i in absurd (omega arith)
plus_is _ _ _ equal_shape h = absurd (omega arith)
plus_is _ _ _ less_shape h = absurd (omega arith)
plus_is _ _ _ less_equal_shape h = absurd (omega arith)
plus_is _ _ _ not_equal_shape h = absurd (omega arith)
plus_is _ _ _ greater_shape h = absurd (omega arith)
plus_is _ _ _ greater_equal_shape h = absurd (omega arith)

pub minus_is : (b : ℕ) (bs : List ℕ) (t : Token) → TokenShape b bs t → class_of b ≡ 4 → Signs true true bs t
minus_is _ _ _ (minus_shape b ws fs i j k) h = signs_by true b ws fs i j k
minus_is _ _ _ (number_shape b ws fs i j k) h = let e = digit_class b i in absurd (omega arith)
minus_is _ _ _ (word_shape b bs l g) h = let e = letter_class b l in absurd (omega arith)
minus_is _ _ _ (plus_shape b ws fs i j k) h = absurd (omega arith)
minus_is _ _ _ (string_shape text p l) h = absurd (omega arith)
minus_is _ _ _ (sign_shape b i) h = let e = sign_class b i in absurd (omega arith)
minus_is _ _ _ equal_shape h = absurd (omega arith)
minus_is _ _ _ less_shape h = absurd (omega arith)
minus_is _ _ _ less_equal_shape h = absurd (omega arith)
minus_is _ _ _ not_equal_shape h = absurd (omega arith)
minus_is _ _ _ greater_shape h = absurd (omega arith)
minus_is _ _ _ greater_equal_shape h = absurd (omega arith)

-- what stands behind a string's first quote
pub record Strings (bs : List ℕ) (t : Token) : Type 0 where
  pub text : List ℕ
  pub all : bs ≡ double_quotes text ++ 34 ∷ []
  pub printable : list_all is_printable text ≡ true
  pub few : length text ≤ 200
  pub token : t ≡ Quoted text

pub string_is : (b : ℕ) (bs : List ℕ) (t : Token) → TokenShape b bs t → class_of b ≡ 5 → Strings bs t
string_is _ _ _ (string_shape text p l) h = record { text = text; all = refl; printable = p; few = l; token = refl }
string_is _ _ _ (number_shape b ws fs i j k) h = let e = digit_class b i in absurd (omega arith)
string_is _ _ _ (word_shape b bs l g) h = let e = letter_class b l in absurd (omega arith)
string_is _ _ _ (plus_shape b ws fs i j k) h = absurd (omega arith)
string_is _ _ _ (minus_shape b ws fs i j k) h = absurd (omega arith)
string_is _ _ _ (sign_shape b i) h = let e = sign_class b i in absurd (omega arith)
string_is _ _ _ equal_shape h = absurd (omega arith)
string_is _ _ _ less_shape h = absurd (omega arith)
string_is _ _ _ less_equal_shape h = absurd (omega arith)
string_is _ _ _ not_equal_shape h = absurd (omega arith)
string_is _ _ _ greater_shape h = absurd (omega arith)
string_is _ _ _ greater_equal_shape h = absurd (omega arith)

pub sign_is : (b : ℕ) (bs : List ℕ) (t : Token) → TokenShape b bs t → class_of b ≡ 6 → (bs ≡ []) × (t ≡ Sign b)
sign_is _ _ _ (sign_shape b i) h = (refl, refl)
sign_is _ _ _ (number_shape b ws fs i j k) h = let e = digit_class b i in absurd (omega arith)
sign_is _ _ _ (word_shape b bs l g) h = let e = letter_class b l in absurd (omega arith)
sign_is _ _ _ (plus_shape b ws fs i j k) h = absurd (omega arith)
sign_is _ _ _ (minus_shape b ws fs i j k) h = absurd (omega arith)
sign_is _ _ _ (string_shape text p l) h = absurd (omega arith)
sign_is _ _ _ equal_shape h = absurd (omega arith)
sign_is _ _ _ less_shape h = absurd (omega arith)
sign_is _ _ _ less_equal_shape h = absurd (omega arith)
sign_is _ _ _ not_equal_shape h = absurd (omega arith)
sign_is _ _ _ greater_shape h = absurd (omega arith)
sign_is _ _ _ greater_equal_shape h = absurd (omega arith)

pub equal_is : (b : ℕ) (bs : List ℕ) (t : Token) → TokenShape b bs t → class_of b ≡ 7 → (bs ≡ []) × (t ≡ Compare Equal)
equal_is _ _ _ equal_shape h = (refl, refl)
equal_is _ _ _ (number_shape b ws fs i j k) h = let e = digit_class b i in absurd (omega arith)
equal_is _ _ _ (word_shape b bs l g) h = let e = letter_class b l in absurd (omega arith)
equal_is _ _ _ (plus_shape b ws fs i j k) h = absurd (omega arith)
equal_is _ _ _ (minus_shape b ws fs i j k) h = absurd (omega arith)
equal_is _ _ _ (string_shape text p l) h = absurd (omega arith)
equal_is _ _ _ (sign_shape b i) h = let e = sign_class b i in absurd (omega arith)
equal_is _ _ _ less_shape h = absurd (omega arith)
equal_is _ _ _ less_equal_shape h = absurd (omega arith)
equal_is _ _ _ not_equal_shape h = absurd (omega arith)
equal_is _ _ _ greater_shape h = absurd (omega arith)
equal_is _ _ _ greater_equal_shape h = absurd (omega arith)

-- which comparison begins with <
abbrev pub less_with : List ℕ → Token → Type 0
less_with [] t = t ≡ Compare Less
less_with (b ∷ []) t = ((b ≡ 61) × (t ≡ Compare LessEqual)) ⊎ ((b ≡ 62) × (t ≡ Compare NotEqual))
less_with (b ∷ c ∷ bs) t = ⊥

pub less_is : (b : ℕ) (bs : List ℕ) (t : Token) → TokenShape b bs t → class_of b ≡ 8 → less_with bs t
less_is _ _ _ less_shape h = refl
less_is _ _ _ less_equal_shape h = inl (refl, refl)
less_is _ _ _ not_equal_shape h = inr (refl, refl)
less_is _ _ _ (number_shape b ws fs i j k) h = let e = digit_class b i in absurd (omega arith)
less_is _ _ _ (word_shape b bs l g) h = let e = letter_class b l in absurd (omega arith)
less_is _ _ _ (plus_shape b ws fs i j k) h = absurd (omega arith)
less_is _ _ _ (minus_shape b ws fs i j k) h = absurd (omega arith)
less_is _ _ _ (string_shape text p l) h = absurd (omega arith)
less_is _ _ _ (sign_shape b i) h = let e = sign_class b i in absurd (omega arith)
less_is _ _ _ equal_shape h = absurd (omega arith)
less_is _ _ _ greater_shape h = absurd (omega arith)
less_is _ _ _ greater_equal_shape h = absurd (omega arith)

-- which comparison begins with >
abbrev pub greater_with : List ℕ → Token → Type 0
greater_with [] t = t ≡ Compare Greater
greater_with (b ∷ []) t = (b ≡ 61) × (t ≡ Compare GreaterEqual)
greater_with (b ∷ c ∷ bs) t = ⊥

pub greater_is : (b : ℕ) (bs : List ℕ) (t : Token) → TokenShape b bs t → class_of b ≡ 9 → greater_with bs t
greater_is _ _ _ greater_shape h = refl
greater_is _ _ _ greater_equal_shape h = (refl, refl)
greater_is _ _ _ (number_shape b ws fs i j k) h = let e = digit_class b i in absurd (omega arith)
greater_is _ _ _ (word_shape b bs l g) h = let e = letter_class b l in absurd (omega arith)
greater_is _ _ _ (plus_shape b ws fs i j k) h = absurd (omega arith)
greater_is _ _ _ (minus_shape b ws fs i j k) h = absurd (omega arith)
greater_is _ _ _ (string_shape text p l) h = absurd (omega arith)
greater_is _ _ _ (sign_shape b i) h = let e = sign_class b i in absurd (omega arith)
greater_is _ _ _ equal_shape h = absurd (omega arith)
greater_is _ _ _ less_shape h = absurd (omega arith)
greater_is _ _ _ less_equal_shape h = absurd (omega arith)
greater_is _ _ _ not_equal_shape h = absurd (omega arith)
