use Rattle.std.proofs.Common.{◌≡◌, ◌^◌, ℕ, pos, zero, suc, Bool, true, false, cond, refl, ap, ◌∙◌, arith}
use Rattle.std.specs.Prelude.{◌||◌, not, nat_lt, ◌==◌, IfSome, IsTrue, unsigned_abs, int_lt, Some, None}
use Rattle.std.specs.declared.option.Option.{Option}
use Rattle.std.proofs.lemmas.Bool.{and_parts, and_from}
use Rattle.std.proofs.lemmas.Int.{ints}
use Rattle.dms_base.specs.declared.value.Value.{Value}
use Rattle.dms_base.specs.declared.value.Value.TheVariants.{Text}
use Rattle.dms_base.specs.declared.kind.ItemKind.{ItemKind}
use Rattle.dms_base.specs.declared.kind.ItemKind.TheVariants.{Alpha, Number as Decimal, Bool as OneBit, Field, Link}
use Rattle.dms_base.specs.declared.kind.Literal.{Literal}
use Rattle.dms_base.specs.declared.kind.Literal.TheVariants.{Null as NoValue, Text as Quoted, Number as Digits, Bool as Word}
use Rattle.dms_base.specs.Fits.{fits, scale, with_sign, number_within, bits_of, value_of}

-- a value that is given where a test holds passes what the test shows
if_some : (P : Value → Type 0) (t : Bool) (v : Value) → (t ≡ true → P v) → IfSome (cond t (Some v) None) P
if_some P true v h = h refl
if_some P false v h = tt

-- the size of a signed size is that size
pub size_of_signed : (minus : Bool) (size : ℕ) → unsigned_abs (with_sign minus size) ≡ size
size_of_signed false size = refl
size_of_signed true zero = refl
size_of_signed true (suc size) = refl

no_sign : (size : ℕ) → int_lt (pos size) (pos 0) ≡ false
no_sign size = grind (arith, ints)

-- what may have its sign is negative only where that is allowed
sign_of_signed : (s minus : Bool) (size : ℕ) → (s || not minus || size == 0) ≡ true → (s || not (int_lt (with_sign minus size) (pos 0))) ≡ true
sign_of_signed true minus size h = refl
sign_of_signed false false size h = ap not (no_sign size)
sign_of_signed false true zero h = ap not (no_sign 0)
sign_of_signed false true (suc size) h = absurd (grind arith)

ranged_fits : (n m : ℕ) (s minus : Bool) (size : Option ℕ) → IfSome (number_within n s minus size) (λ v. IsTrue (fits (Decimal n m s) v))
ranged_fits n m s minus None = tt
ranged_fits n m s minus (Some size) =
    if_some (λ v. IsTrue (fits (Decimal n m s) v)) _ _
    (λ h. let both = and_parts (nat_lt size (10 ^ n)) (s || not minus || size == 0) h in
    and_from _ _ (ap (λ (k : ℕ). nat_lt k (10 ^ n)) (size_of_signed minus size) ∙ both.0) (sign_of_signed s minus size both.1))

bits_fit : (n : ℕ) (minus : Bool) (size : Option ℕ) → IfSome (bits_of n minus size) (λ v. IsTrue (fits (Field n) v))
bits_fit n minus None = tt
bits_fit n minus (Some size) =
    if_some (λ v. IsTrue (fits (Field n) v)) _ _
    (λ h. (and_parts (nat_lt size (2 ^ n)) (not minus || size == 0) h).0)

-- what a literal spells for a kind fits it
pub value_of_fits : (k : ItemKind) (l : Literal) → IfSome (value_of k l) (λ v. IsTrue (fits k v))
value_of_fits (Link to counted) l = tt
value_of_fits (Alpha n) NoValue = refl
value_of_fits (Decimal n m s) NoValue = refl
value_of_fits OneBit NoValue = refl
value_of_fits (Field n) NoValue = refl
value_of_fits (Alpha n) (Quoted bytes) = if_some (λ v. IsTrue (fits (Alpha n) v)) _ (Text bytes) (λ h. h)
value_of_fits (Decimal n m s) (Digits minus digits places) = ranged_fits n m s minus (scale m digits places)
value_of_fits (Field n) (Digits minus digits places) = bits_fit n minus (scale 0 digits places)
value_of_fits OneBit (Word b) = refl
value_of_fits k l = tt
