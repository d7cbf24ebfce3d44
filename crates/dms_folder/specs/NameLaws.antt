-- No two numbers have one name, and a name tells its number.
use Rattle.std.specs.Prelude.{ℕ, ◌+◌, ◌-◌, ◌^◌, ◌<◌, ◌≤◌, ◌≡◌, List, ◌++◌, ◌∷◌, codes, decimal, length, replicate, take, drop, IsAscii}
use Rattle.std.proofs.Common.{refl, ap, sym, ◌∙◌, arith, length-append, zero, suc}
use Rattle.std.proofs.lemmas.List.{length-replicate}
use Rattle.std.proofs.Math.Seq.{take-append_seam}
use Rattle.std.specs.Str.Parse.{AllDigits, digits_value}
use Rattle.std.proofs.lemmas.Fmt.{decimal_is_IsNumeral, length-decimal-le, IsAscii-from_digits}
use Rattle.dms_calls.specs.Names.{digits_of, name_of}

pub name_digits : (n : ℕ) → name_of n ≡ 70 ∷ (digits_of n ++ codes ".DMS")
unfolding name_of
name_digits n = refl

zeros : (k : ℕ) (ds : List ℕ) → digits_value 10 (replicate k 48 ++ ds) ≡ digits_value 10 ds
zeros zero ds = refl
zeros (suc k) ds = zeros k ds

all_zeros : (k : ℕ) (ds : List ℕ) → AllDigits 10 ds → AllDigits 10 (replicate k 48 ++ ds)
all_zeros zero ds all = all
all_zeros (suc k) ds all = (omega arith, all_zeros k ds all)

pub digits_value_of : (n : ℕ) → n < 2 ^ 64 → digits_value 10 (digits_of n) ≡ n
unfolding digits_of
digits_value_of n low = zeros (5 - length (decimal n)) (decimal n) ∙ (decimal_is_IsNumeral n low).1

pub digits_all : (n : ℕ) → n < 2 ^ 64 → AllDigits 10 (digits_of n)
unfolding digits_of
digits_all n low = all_zeros (5 - length (decimal n)) (decimal n) (decimal_is_IsNumeral n low).0.1

pub digits_ascii : (n : ℕ) → n < 2 ^ 64 → IsAscii (digits_of n)
digits_ascii n low = IsAscii-from_digits (digits_of n) (digits_all n low)

pub digits_long : (n : ℕ) → n < 2 ^ 32 → (5 ≤ length (digits_of n)) × (length (digits_of n) ≤ 10)
unfolding digits_of
digits_long n low =
    let e : length (digits_of n) ≡ (5 - length (decimal n)) + length (decimal n) = omega (arith, length-append (replicate (5 - length (decimal n)) 48) (decimal n), length-replicate {A = ℕ} (5 - length (decimal n)) 48) in
    (omega (arith, e), omega (arith, e, length-decimal-le 10 n (omega arith) (omega arith) (omega (arith, low))))

pub name_long : (n : ℕ) → length (name_of n) ≡ length (digits_of n) + 5
name_long n = ap (λ (l : List ℕ). length l) (name_digits n) ∙ omega (arith, length-append (digits_of n) (codes ".DMS"))

-- the digits within a name
pub name_middle : (n : ℕ) → take (length (name_of n) - 4 - 1) (drop 1 (name_of n)) ≡ digits_of n
name_middle n =
    ap (λ (l : List ℕ). take (length (name_of n) - 4 - 1) (drop 1 l)) (name_digits n)
    ∙ ap (λ (k : ℕ). take k (digits_of n ++ codes ".DMS")) (omega (arith, name_long n)) ∙ take-append_seam (digits_of n) (codes ".DMS")

pub name_inj : (m n : ℕ) → m < 2 ^ 32 → n < 2 ^ 32 → name_of m ≡ name_of n → m ≡ n
name_inj m n low high same =
    let d : digits_of m ≡ digits_of n = sym (name_middle m) ∙ ap (λ (l : List ℕ). take (length l - 4 - 1) (drop 1 l)) same ∙ name_middle n in
    sym (digits_value_of m (omega (arith, low))) ∙ ap (λ (l : List ℕ). digits_value 10 l) d ∙ digits_value_of n (omega (arith, high))
