-- What was written is read again: names, literals and types of items.
use Rattle.std.proofs.Common.{◌≡◌, ℕ, suc, ℤ, pos, negsuc, ◌+◌, ◌-◌, ◌^◌, ◌<◌, ◌≤◌, Bool, true, false, ltb, leb, List, length, refl, ap, ◌∙◌, arith}
use Rattle.std.specs.Prelude.{unsigned_abs, nat_le, nat_lt, not, ◌&&◌, ◌||◌, int_lt}
use Rattle.std.specs.List.{list_all}
use Rattle.std.specs.Str.{bytes_eq}
use Rattle.std.proofs.Math.Pow.{pow_mono}
use Rattle.std.proofs.Math.Nat.{pow-le-pow_right}
use Rattle.std.proofs.lemmas.Bool.{and_parts, leb-true, le-leb, ltb-true, lt-ltb, le-ltb}
use Rattle.std.proofs.lemmas.Nat.{from_be_bytes-to_be_bytes_2}
use Rattle.std.proofs.lemmas.Slice.Eq.{bytes_eq-Decides}
use Rattle.dms_base.specs.Name.{is_name, name_of}
use Rattle.dms_base.specs.Words.{is_word}
use Rattle.dms_base.specs.Reserved.{is_reserved}
use Rattle.dms_base.specs.Text.{is_printable, trim_spaces, text_of}
use Rattle.dms_base.specs.Fits.{fits}
use Rattle.dms_base.specs.Spelling.{is_kind}
use Rattle.dms_base.specs.declared.value.Value.{Value}
use Rattle.dms_base.specs.declared.value.Value.TheVariants.{Null, Text, Number, Bool as Truth, Bits, Link}
use Rattle.dms_base.specs.declared.kind.ItemKind.{ItemKind}
use Rattle.dms_base.specs.declared.kind.ItemKind.TheVariants.{Alpha, Number as Decimal, Bool as OneBit, Field, Link as LinkTo}
use Rattle.dms_desc.specs.Kinds.{is_link}
use Rattle.dms_desc.specs.Conds.{is_null}
use Rattle.dms_desc_bytes.specs.Members.{is_plain}
use Rattle.dms_desc_bytes.specs.Reading.{ReadBytes, name_at, name_or_unknown, text_or_null, text_at, long_at, truth_at, bits_at, literal_at, kind_at, shift_down}
use Rattle.dms_desc_bytes.specs.Spelling.{name_bytes, literal_bytes, kind_bytes, shift_up}
use Rattle.dms_desc_bytes.proofs.Fields.{Again, u64_again, flag_again, counted_again}

-- ---- names

pub name_short : (name : List ℕ) → is_name name ≡ true → length name ≤ 30
unfolding is_name
name_short name good = leb-true _ _ (and_parts (nat_le (length name) 30) (is_word name) (and_parts (nat_le (length name) 30 && is_word name) (not (is_reserved name)) good).0).0

pub name_again : (name : List ℕ) → is_name name ≡ true → Again name_at (name_bytes name) name
unfolding name_at
name_again name good rest =
    let short = name_short name good in
    ap (λ (r : ReadBytes (List ℕ)). (name_or_unknown (name_of r.0), r.1)) (counted_again name (omega (arith, short)) rest) ∙ rw good refl

-- ---- literals

-- a value that a description can spell
abbrev pub SpelledValue : Value → Type 0
SpelledValue Null = Unit {0}
SpelledValue (Text text) = (length text ≤ 200) × (list_all is_printable text ≡ true) × (trim_spaces text ≡ text)
SpelledValue (Number z) = unsigned_abs z < 2 ^ 63
SpelledValue (Truth b) = Unit {0}
SpelledValue (Bits n) = n < 2 ^ 64
SpelledValue (Link n) = ⊥

shifted_low : (z : ℤ) → unsigned_abs z < 2 ^ 63 → shift_up z < 2 ^ 64
shifted_low (pos n) low = omega (arith, low)
shifted_low (negsuc n) low = omega (arith, low)

shifted_again : (z : ℤ) → unsigned_abs z < 2 ^ 63 → shift_down (shift_up z) ≡ z
shifted_again (pos n) low =
    let high : ltb (2 ^ 63 + n) (2 ^ 63) ≡ false = le-ltb _ _ (omega arith) in
    let back : 2 ^ 63 + n - 2 ^ 63 ≡ n = omega arith in
    rw (high, back) refl
shifted_again (negsuc n) low =
    let below : ltb (2 ^ 63 - suc n) (2 ^ 63) ≡ true = lt-ltb _ _ (omega (arith, low)) in
    let back : 2 ^ 63 - (2 ^ 63 - suc n) - 1 ≡ n = omega (arith, low) in
    rw (below, back) refl

text_again : (text : List ℕ) → length text ≤ 200 → list_all is_printable text ≡ true → trim_spaces text ≡ text → Again literal_at (literal_bytes (Text text)) (Text text)
unfolding literal_at text_at text_of
text_again text few plain ends rest =
    let small : leb (length (trim_spaces text)) 200 ≡ true = le-leb _ _ (omega (arith, ap length ends, few)) in
    ap (λ (r : ReadBytes (List ℕ)). (text_or_null (text_of r.0), r.1)) (counted_again text (omega (arith, few)) rest)
    ∙ rw (plain, small, ends) refl

number_again : (z : ℤ) → unsigned_abs z < 2 ^ 63 → Again literal_at (literal_bytes (Number z)) (Number z)
unfolding literal_at long_at
number_again z low rest =
    ap (λ (r : ReadBytes ℕ). (Number (shift_down r.0), r.1)) (u64_again (shift_up z) (shifted_low z low) rest)
    ∙ ap (λ (y : ℤ). (Number y, rest)) (shifted_again z low)

truth_again : (b : Bool) → Again literal_at (literal_bytes (Truth b)) (Truth b)
unfolding literal_at truth_at
truth_again b rest = ap (λ (r : ReadBytes Bool). (Truth r.0, r.1)) (flag_again b rest)

bits_again : (n : ℕ) → n < 2 ^ 64 → Again literal_at (literal_bytes (Bits n)) (Bits n)
unfolding literal_at bits_at
bits_again n low rest = ap (λ (r : ReadBytes ℕ). (Bits r.0, r.1)) (u64_again n low rest)

null_again : Again literal_at (literal_bytes Null) Null
unfolding literal_at
null_again rest = refl

pub literal_again : (v : Value) → SpelledValue v → Again literal_at (literal_bytes v) v
literal_again Null good = null_again
literal_again (Text text) good = text_again text good.0 good.1 good.2
literal_again (Number z) good = number_again z good
literal_again (Truth b) good = truth_again b
literal_again (Bits n) good = bits_again n good
literal_again (Link n) good = absurd good

-- ---- types of items

-- a type that a description can spell
abbrev pub Typed : ItemKind → Type 0
Typed (Alpha n) = Unit {0}
Typed (Decimal n m s) = Unit {0}
Typed OneBit = Unit {0}
Typed (Field n) = Unit {0}
Typed (LinkTo target counted) = target < 2 ^ 16

pub kind_again : (k : ItemKind) → Typed k → Again kind_at (kind_bytes k) k
unfolding kind_at
kind_again (Alpha n) good rest = refl
kind_again (Decimal n m true) good rest = refl
kind_again (Decimal n m false) good rest = refl
kind_again OneBit good rest = refl
kind_again (Field n) good rest = refl
kind_again (LinkTo target true) good rest = ap (λ (n : ℕ). (LinkTo n true, rest)) (from_be_bytes-to_be_bytes_2 target good)
kind_again (LinkTo target false) good rest = ap (λ (n : ℕ). (LinkTo n false, rest)) (from_be_bytes-to_be_bytes_2 target good)

-- ---- what the checks say of values

tens : (n : ℕ) → n ≤ 18 → 10 ^ n ≤ 10 ^ 18
tens n low = pow-le-pow_right {n = 10} (omega arith) low

text_spelled : (n : ℕ) (text : List ℕ) → is_kind (Alpha n) ≡ true → fits (Alpha n) (Text text) ≡ true → is_plain (Text text) ≡ true → SpelledValue (Text text)
text_spelled n text kind fit plain =
    let most = leb-true n 200 (and_parts (nat_le 1 n) (nat_le n 200) kind).1 in
    let few = leb-true (length text) n fit in
    let parts = and_parts (list_all is_printable text) (bytes_eq (trim_spaces text) text) plain in
    (omega (arith, most, few), parts.0, (bytes_eq-Decides (trim_spaces text) text).0 parts.1)

number_spelled : (n m : ℕ) (s : Bool) (z : ℤ) → is_kind (Decimal n m s) ≡ true → fits (Decimal n m s) (Number z) ≡ true → SpelledValue (Number z)
number_spelled n m s z kind fit =
    let most = leb-true n 18 (and_parts (nat_le 1 n) (nat_le n 18) (and_parts (nat_le 1 n && nat_le n 18) (nat_le m n) kind).0).1 in
    let low = ltb-true (unsigned_abs z) (10 ^ n) (and_parts (nat_lt (unsigned_abs z) (10 ^ n)) (s || not (int_lt z (pos 0))) fit).0 in
    omega (arith, low, tens n most)

bits_spelled : (n b : ℕ) → is_kind (Field n) ≡ true → fits (Field n) (Bits b) ≡ true → SpelledValue (Bits b)
bits_spelled n b kind fit =
    let most = leb-true n 48 (and_parts (nat_le 1 n) (nat_le n 48) kind).1 in
    let low = ltb-true b (2 ^ n) fit in
    omega (arith, low, pow_mono {i = n} {j = 48} most)

-- a value that fits a kind can be spelled
pub value_spelled : (k : ItemKind) (v : Value) → is_kind k ≡ true → fits k v ≡ true → is_plain v ≡ true → is_link k ≡ false → SpelledValue v
value_spelled k Null kind fit plain other = tt
value_spelled (Alpha n) (Text text) kind fit plain other = text_spelled n text kind fit plain
value_spelled (Decimal n m s) (Text text) kind fit plain other = absurd cc
value_spelled OneBit (Text text) kind fit plain other = absurd cc
value_spelled (Field n) (Text text) kind fit plain other = absurd cc
value_spelled (LinkTo t c) (Text text) kind fit plain other = absurd cc
value_spelled (Alpha n) (Number z) kind fit plain other = absurd cc
value_spelled (Decimal n m s) (Number z) kind fit plain other = number_spelled n m s z kind fit
value_spelled OneBit (Number z) kind fit plain other = absurd cc
value_spelled (Field n) (Number z) kind fit plain other = absurd cc
value_spelled (LinkTo t c) (Number z) kind fit plain other = absurd cc
value_spelled k (Truth b) kind fit plain other = tt
value_spelled (Alpha n) (Bits b) kind fit plain other = absurd cc
value_spelled (Decimal n m s) (Bits b) kind fit plain other = absurd cc
value_spelled OneBit (Bits b) kind fit plain other = absurd cc
value_spelled (Field n) (Bits b) kind fit plain other = bits_spelled n b kind fit
value_spelled (LinkTo t c) (Bits b) kind fit plain other = absurd cc
value_spelled (Alpha n) (Link r) kind fit plain other = absurd cc
value_spelled (Decimal n m s) (Link r) kind fit plain other = absurd cc
value_spelled OneBit (Link r) kind fit plain other = absurd cc
value_spelled (Field n) (Link r) kind fit plain other = absurd cc
value_spelled (LinkTo t c) (Link r) kind fit plain other = absurd cc

pub null_spelled : (v : Value) → is_null v ≡ true → SpelledValue v
null_spelled Null null = tt
null_spelled (Text text) null = absurd cc
null_spelled (Number z) null = absurd cc
null_spelled (Truth b) null = absurd cc
null_spelled (Bits b) null = absurd cc
null_spelled (Link r) null = absurd cc
