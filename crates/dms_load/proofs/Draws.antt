-- The code's steps are those of one draw.
use Rattle.std.proofs.Math.Nat.{add-mul-mod_self_left, div-add-mod}
use Rattle.std.proofs.Common.{ℕ, sym, ◌*◌, ◌+◌, ◌/◌, ◌%◌, ◌^◌, ◌≡◌, refl, ◌∙◌, ap, arith}
use Rattle.dms_load.specs.Script.{next_draw}

pub draw_wraps : (x : ℕ) → (x * 6364136223846793005 % 2 ^ 64 + 1442695040888963407) % 2 ^ 64 ≡ next_draw x
unfolding next_draw
draw_wraps x =
    let a = x * 6364136223846793005 in
    sym (add-mul-mod_self_left (a % 2 ^ 64 + 1442695040888963407) (2 ^ 64) (a / 2 ^ 64)) ∙ ap (λ (k : ℕ). k % 2 ^ 64) (whole x a refl)
  where
    whole : (x a : ℕ) → a ≡ x * 6364136223846793005 → a % 2 ^ 64 + 1442695040888963407 + 2 ^ 64 * (a / 2 ^ 64) ≡ 6364136223846793005 * x + 1442695040888963407
    whole x a is = omega (arith, is, div-add-mod a (2 ^ 64))
