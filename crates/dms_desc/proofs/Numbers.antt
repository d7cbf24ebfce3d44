-- The numbers of structures.
use Rattle.std.proofs.Common.{◌≡◌, ◌∙◌, ◌+◌, ◌-◌, ◌≤◌, ℕ, zero, suc, List, [], ◌∷◌, false, None, ap, subst, cond, length, slice_get, arith}
use Rattle.std.specs.Prelude.{◌==◌, IsSome}
use Rattle.std.proofs.lemmas.Bool.Decides.{nat_tests}
use Rattle.dms_desc.specs.Lookups.{structure_at}
use Rattle.dms_desc.specs.Shape.{Shape}

some_low : (ss : List Shape) (k : ℕ) → IsSome (slice_get ss k) → k + 1 ≤ length ss
some_low [] k some = absurd cc
some_low (s ∷ ss) zero some = omega arith
some_low (s ∷ ss) (suc k) some = omega (arith, some_low ss k some)

-- a structure has a number from 1 to as many as there are
pub some_at : (ss : List Shape) (n : ℕ) → IsSome (structure_at ss n) → (1 ≤ n) × (n ≤ length ss)
some_at ss zero some = absurd cc
some_at ss (suc k) some =
    let t : (suc k == 0) ≡ false = grind (arith, nat_tests) in
    let e : suc k - 1 ≡ k = omega arith in
    let is : structure_at ss (suc k) ≡ slice_get ss k = ap (λ b. cond b None (slice_get ss (suc k - 1))) t ∙ ap (slice_get ss) e in
    (omega arith, omega (arith, some_low ss k (subst IsSome is some)))
