-- The value of a literal fits its item, and a condition that was judged compares items well.
use Rattle.std.proofs.Common.{◌≡◌, ℕ, suc, zero, List, Bool, true, false, cond, refl, ap, subst, arith}
use Rattle.std.proofs.lemmas.Bool.{and_parts, eqb-true, and_from}
use Rattle.std.proofs.lemmas.Bool.Decides.{nat_tests}
use Rattle.std.specs.Prelude.{pos, ◌&&◌, ◌||◌, not, ◌==◌, ◌^◌, nat_lt, nat_le, int_lt, length, Some, None}
use Rattle.std.specs.List.{list_all}
use Rattle.std.specs.Str.{bytes_eq}
use Rattle.std.specs.declared.option.Option.{Option}
use Rattle.dms_base.specs.declared.value.Value.{Value}
use Rattle.dms_base.specs.declared.value.Value.TheVariants.{Null, Text, Number, Bool as Truth, Bits}
use Rattle.dms_base.specs.declared.kind.ItemKind.{ItemKind}
use Rattle.dms_base.specs.declared.kind.ItemKind.TheVariants.{Alpha, Number as Decimal, Bool as OneBit, Field, Link as LinkTo}
use Rattle.dms_base.specs.declared.kind.Literal.{Literal}
use Rattle.dms_base.specs.declared.kind.Literal.TheVariants.{Null as NoValue, Text as Quoted, Number as Digits, Bool as Word}
use Rattle.dms_base.specs.Fits.{fits, scale, with_sign, number_within, bits_of, alpha_of, value_of}
use Rattle.dms_base.specs.Text.{is_printable, trim_spaces}
use Rattle.dms_desc.specs.Kinds.{is_link}
use Rattle.dms_desc_bytes.specs.Members.{is_plain}
use Rattle.dms_base.specs.Spelling.{is_kind}
use Rattle.dasdl_compile.specs.Conditions.{value_in}
use Rattle.dms_base.proofs.Spelled.{size_of_signed}

-- a literal of a text: a string has characters from the space to `~`, and no space at its end
abbrev pub is_plain_literal : Literal → Bool
is_plain_literal (Quoted bytes) = list_all is_printable bytes && bytes_eq (trim_spaces bytes) bytes
is_plain_literal NoValue = true
is_plain_literal (Digits minus digits places) = true
is_plain_literal (Word b) = true

-- what an item may be compared with, and what it may begin as
abbrev pub is_value : ItemKind → Value → Bool
is_value k v = (not (is_link k) && fits k v) && is_plain v

sign_of : (minus s : Bool) (n : ℕ) → s || not minus || n == 0 ≡ true → s || not (int_lt (with_sign minus n) (pos 0)) ≡ true
sign_of minus true n h = refl
sign_of false false n h = let e : nat_lt n 0 ≡ false = grind (arith, nat_tests) in ap not e
sign_of true false zero h = refl
sign_of true false (suc n) h = let z : suc n ≡ 0 = eqb-true (suc n) 0 h in absurd (omega (arith, z))

picked : {A : Type 0} (b : Bool) (x y : A) → ◌≡◌ {A = Option A} (cond b (Some x) None) (Some y) → (b ≡ true) × (x ≡ y)
picked true x y h = (refl, cc)
picked false x y h = absurd (cc)

ranged_fits : (n m : ℕ) (s minus : Bool) (o : Option ℕ) (v : Value) → number_within n s minus o ≡ Some v → is_value (Decimal n m s) v ≡ true
ranged_fits n m s minus None v h = absurd (cc)
ranged_fits n m s minus (Some size) v h =
    let a = picked {A = Value} _ (Number (with_sign minus size)) v h in
    let b = and_parts (nat_lt size (10 ^ n)) (s || not minus || size == 0) a.0 in
    let f : fits (Decimal n m s) (Number (with_sign minus size)) ≡ true = and_from _ _ (rw (size_of_signed minus size) b.0) (sign_of minus s size b.1) in
    subst (λ (x : Value). is_value (Decimal n m s) x ≡ true) a.1 (and_from _ _ f refl)

bits_fit : (n : ℕ) (minus : Bool) (o : Option ℕ) (v : Value) → bits_of n minus o ≡ Some v → is_value (Field n) v ≡ true
bits_fit n minus None v h = absurd (cc)
bits_fit n minus (Some size) v h =
    let a = picked {A = Value} _ (Bits size) v h in
    let b = and_parts (nat_lt size (2 ^ n)) (not minus || size == 0) a.0 in
    subst (λ (x : Value). is_value (Field n) x ≡ true) a.1 (and_from _ _ b.0 refl)

text_fits : (n : ℕ) (bytes : List ℕ) (v : Value) → is_plain_literal (Quoted bytes) ≡ true → alpha_of n bytes ≡ Some v → is_value (Alpha n) v ≡ true
text_fits n bytes v plain h =
    let a = picked {A = Value} (nat_le (length bytes) n) (Text bytes) v h in
    subst (λ (x : Value). is_value (Alpha n) x ≡ true) a.1 (and_from _ _ a.0 plain)

null_fits : (k : ItemKind) (v : Value) → is_value k Null ≡ true → ◌≡◌ {A = Option Value} (Some Null) (Some v) → is_value k v ≡ true
null_fits k v e h = let s : Null ≡ v = cc in subst (λ (x : Value). is_value k x ≡ true) s e

value_fits : (k : ItemKind) (l : Literal) (v : Value) → is_plain_literal l ≡ true → value_of k l ≡ Some v → is_value k v ≡ true
value_fits (LinkTo to counted) l v plain h = absurd (cc)
value_fits (Alpha n) NoValue v plain h = null_fits (Alpha n) v refl h
value_fits (Decimal n m s) NoValue v plain h = null_fits (Decimal n m s) v refl h
value_fits OneBit NoValue v plain h = null_fits OneBit v refl h
value_fits (Field n) NoValue v plain h = null_fits (Field n) v refl h
value_fits (Alpha n) (Quoted bytes) v plain h = text_fits n bytes v plain h
value_fits (Decimal n m s) (Digits minus digits places) v plain h = ranged_fits n m s minus (scale m digits places) v h
value_fits (Field n) (Digits minus digits places) v plain h = bits_fit n minus (scale 0 digits places) v h
value_fits OneBit (Word b) v plain h = let s : Truth b ≡ v = cc in subst (λ (x : Value). is_value OneBit x ≡ true) s refl
value_fits (Alpha n) (Digits minus digits places) v plain h = absurd (cc)
value_fits (Alpha n) (Word b) v plain h = absurd (cc)
value_fits (Decimal n m s) (Quoted bytes) v plain h = absurd (cc)
value_fits (Decimal n m s) (Word b) v plain h = absurd (cc)
value_fits (Field n) (Quoted bytes) v plain h = absurd (cc)
value_fits (Field n) (Word b) v plain h = absurd (cc)
value_fits OneBit (Quoted bytes) v plain h = absurd (cc)
value_fits OneBit (Digits minus digits places) v plain h = absurd (cc)

value_in_case : (b : Bool) (k : ItemKind) (l : Literal) (v : Value) → is_plain_literal l ≡ true → cond b (value_of k l) None ≡ Some v → is_value k v ≡ true
value_in_case true k l v plain h = value_fits k l v plain h
value_in_case false k l v plain h = absurd (cc)

pub judged_fits : (k : ItemKind) (l : Literal) (v : Value) → is_plain_literal l ≡ true → value_in k l ≡ Some v → is_value k v ≡ true
unfolding value_in
judged_fits k l v plain h = value_in_case (is_kind k) k l v plain h
