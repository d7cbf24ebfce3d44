use Rattle.std.proofs.Common.{◌≡◌, ◌≤◌, ◌<◌, ◌^◌, ℕ, true, cond, eqb, arith, lit<}
use Rattle.std.specs.Prelude.{nat_lt, Some, None}
use Rattle.std.proofs.Math.Nat.{pow-le-pow_right, mod-eq_of_lt, div-eq_of_lt}
use Rattle.dms_base.specs.Fits.{whole}
use Rattle.std.proofs.lemmas.Bool.{lt-ltb}

-- a number of 64 bits has at most 20 digits
pub below_tens : (size n : ℕ) → size < 2 ^ 64 → 19 < n → nat_lt size (10 ^ n) ≡ true
below_tens size n small large =
    let more : 10 ^ 20 ≤ 10 ^ n = pow-le-pow_right (lit< tt) large in
    lt-ltb size (10 ^ n) (omega arith)

pub below_twos : (size n : ℕ) → size < 2 ^ 64 → 63 < n → nat_lt size (2 ^ n) ≡ true
below_twos size n small large =
    let more : 2 ^ 64 ≤ 2 ^ n = pow-le-pow_right (lit< tt) large in
    lt-ltb size (2 ^ n) (omega arith)

-- such a number in units of 10 ^ 20 or more is whole only where it is nothing
pub whole_large : (size k : ℕ) → size < 2 ^ 64 → 19 < k → whole size k ≡ cond (eqb size 0) (Some 0) None
whole_large size k small large =
    let more : 10 ^ 20 ≤ 10 ^ k = pow-le-pow_right (lit< tt) large in
    let below : size < 10 ^ k = omega arith in
    let rest = mod-eq_of_lt below in
    let units = div-eq_of_lt below in
    λ i. cond (eqb (rest i) 0) (Some (units i)) None
