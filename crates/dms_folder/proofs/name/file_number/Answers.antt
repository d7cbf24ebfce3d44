use Rattle.std.proofs.Common.{ℕ, List, ◌-◌, ◌<◌, ◌^◌, ◌≡◌, ◌∙◌, Ok, Err, ap, sym, subst, arith, length, take, drop}
use Rattle.std.specs.Str.{IsUtf8}
use Rattle.std.proofs.lemmas.Str.{IsUtf8-from_ascii}
use Rattle.std.proofs.lemmas.Str.Parse.{numerals_by_value, tells_digits, parse_gives}
use Rattle.std.proofs.lemmas.Bool.{false≢true}
use Rattle.std.specs.Str.Parse.{AllDigits, ParsesUnsigned, digits_value}
use Rattle.std.specs.declared.result.Result.{Result}
use Rattle.std.proofs.lemmas.Slice.Eq.{slice_eq-Decides}
use Rattle.std.proofs.lemmas.Bool.Decides.{Decides-eqb}
use Rattle.dms_calls.specs.Names.{digits_of, name_of}
use Rattle.dms_folder.specs.NameLaws.{digits_long, name_long, name_middle, digits_ascii, digits_all, digits_value_of}
use Rattle.dms_folder.proofs.name.file_number.Goals as goal

-- the digits of a name
middle : (name : List ℕ) (n : ℕ) → name ≡ name_of n → take (length name - 4 - 1) (drop 1 name) ≡ digits_of n
middle name n is = ap (λ (l : List ℕ). take (length l - 4 - 1) (drop 1 l)) is ∙ name_middle n

pub returns-then-name-lt10 : goal.returns-then-name-lt10
returns-then-name-lt10 c = record {
  number = λ n low is. omega (arith, c.if-name-lt10.true, ap (λ (l : List ℕ). length l) is, name_long n, (digits_long n low).0);
}

pub returns-in_default : goal.returns-in_default
returns-in_default c = record {
  number = λ n low is. c.in_default.ensures.cases.0 (subst IsUtf8 (sym (middle c.args.name.now n is)) (IsUtf8-from_ascii (digits_of n) (digits_ascii n (omega (arith, low)))));
}

-- the digits of a name are read as its number
parsed : {E : Type 0} (digits : List ℕ) (r : Result ℕ E) (n : ℕ) → n < 2 ^ 32 → digits ≡ digits_of n → ParsesUnsigned 32 10 digits r → r ≡ Ok n
parsed digits r n low is gives =
    let wide : n < 2 ^ 64 = omega (arith, low) in
    let value : digits_value 10 digits ≡ n = ap (λ (l : List ℕ). digits_value 10 l) is ∙ digits_value_of n wide in
    parse_gives (numerals_by_value (AllDigits 10) tells_digits) 32 digits r gives (subst (AllDigits 10) (sym is) (digits_all n wide))
    (omega (arith, ap (λ (l : List ℕ). length l) is, (digits_long n low).0)) (omega (arith, value, low))
    ∙ ap (λ (v : ℕ). Ok v) value

pub returns-in_default-parse : goal.returns-in_default-parse
returns-in_default-parse c = record {
  number = λ n low is. c.in_default-parse.not-Ok n (parsed c.in-Ok.digits.now _ n low (c.in-Ok.ensures.cases.0 ∙ middle c.args.name.now n is) c.parse.ensures.value.0);
}

value_or : {E : Type 0} → Result ℕ E → ℕ
value_or (Ok x) = x
value_or (Err e) = 0

pub returns : goal.returns
unfolding value_or
returns c = record {
  number = λ n low is.
      let p : c.parse.result ≡ Ok n = parsed c.in-Ok.digits.now _ n low (c.in-Ok.ensures.cases.0 ∙ middle c.args.name.now n is) c.parse.ensures.value.0 in
      let same : c.in-Ok-parse.number ≡ n = ap value_or (sym c.in-Ok-parse.is ∙ p) in
      let text : c.as_bytes.result.now ≡ c.args.name.now = c.as_bytes.ensures.value ∙ c.as_str.ensures.value ∙ c.file_name.ensures.name ∙ ap (λ (k : ℕ). name_of k) same ∙ sym is in
      false≢true (sym c.if-eq.false ∙ (slice_eq-Decides Decides-eqb _ _ _ c.eq.ensures).1 text);
}
