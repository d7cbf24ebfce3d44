-- Bytes that are drawn one by one.
use Rattle.std.proofs.Math.Nat.{add-mul-mod_self_left, div-add-mod}
use Rattle.std.proofs.Common.{ℕ, zero, suc, sym, ◌*◌, ◌+◌, ◌/◌, ◌%◌, ◌^◌, ◌≡◌, List, [], ◌∷◌, ◌++◌, refl, ◌∙◌, ap, arith}
use Rattle.dms_sitemem.specs.Picks.{next_seed, draw_bytes, seed_after}

draw_suc : (n seed : ℕ) → draw_bytes (suc n) seed ≡ draw_bytes n seed ++ ((next_seed (seed_after n seed) / 2 ^ 33) % 256) ∷ []
unfolding draw_bytes seed_after
draw_suc zero seed = refl
draw_suc (suc n) seed = ap (λ (l : List ℕ). (next_seed seed / 2 ^ 33) % 256 ∷ l) (draw_suc n (next_seed seed))

seed_suc : (n seed : ℕ) → seed_after (suc n) seed ≡ next_seed (seed_after n seed)
unfolding seed_after
seed_suc zero seed = refl
seed_suc (suc n) seed = seed_suc n (next_seed seed)

one_more : (n : ℕ) → n + 1 ≡ suc n
one_more n = omega arith

-- one more draw behind those before
pub draw_next : (n seed : ℕ) → draw_bytes (n + 1) seed ≡ draw_bytes n seed ++ ((next_seed (seed_after n seed) / 2 ^ 33) % 256) ∷ []
draw_next n seed = ap (λ (k : ℕ). draw_bytes k seed) (one_more n) ∙ draw_suc n seed

pub seed_next : (n seed : ℕ) → seed_after (n + 1) seed ≡ next_seed (seed_after n seed)
seed_next n seed = ap (λ (k : ℕ). seed_after k seed) (one_more n) ∙ seed_suc n seed

-- the code's steps are those of one draw
pub seed_wraps : (seed : ℕ) → (seed * 6364136223846793005 % 2 ^ 64 + 1442695040888963407) % 2 ^ 64 ≡ next_seed seed
unfolding next_seed
seed_wraps seed =
    let a = seed * 6364136223846793005 in
    sym (add-mul-mod_self_left (a % 2 ^ 64 + 1442695040888963407) (2 ^ 64) (a / 2 ^ 64))
    ∙ ap (λ (k : ℕ). k % 2 ^ 64) (whole seed a refl)
  where
    whole : (seed a : ℕ) → a ≡ seed * 6364136223846793005 → a % 2 ^ 64 + 1442695040888963407 + 2 ^ 64 * (a / 2 ^ 64) ≡ 6364136223846793005 * seed + 1442695040888963407
    whole seed a is = omega (arith, is, div-add-mod a (2 ^ 64))
