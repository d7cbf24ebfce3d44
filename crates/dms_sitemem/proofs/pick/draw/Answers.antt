use Rattle.std.proofs.Common.{ℕ, ◌≡◌, ◌+◌, ◌*◌, ◌/◌, ◌%◌, ◌^◌, ◌∙◌, ap, sym, refl, List, [], ◌∷◌, ◌++◌}
use Rattle.dms_sitemem.specs.Picks.{draw_bytes, seed_after, next_seed}
use Rattle.dms_sitemem.proofs.Draws.{draw_next, seed_next, seed_wraps}
use Rattle.dms_sitemem.proofs.pick.draw.Goals as goal

pub loop-place-init : goal.loop-place-init
unfolding draw_bytes seed_after
loop-place-init c = record { bytes = c.new-bytes.ensures.items; seed = refl }

pub loop-place-preserved : goal.loop-place-preserved
loop-place-preserved c =
    let was = c.loop-place.invariant in
    let n = c.loop-place._place in
    let seed = c.args.seed.now in
    let now = (c.loop-place.seed * 6364136223846793005 % 2 ^ 64 + 1442695040888963407) % 2 ^ 64 in
    let is : now ≡ next_seed (seed_after n seed) = seed_wraps c.loop-place.seed ∙ ap (λ (s : ℕ). next_seed s) was.seed in
    record {
      bytes = c.in_ok-push.ensures.items ∙ ap (λ (l : List ℕ). l ++ (now / 2 ^ 33 % 256) ∷ []) was.bytes ∙ ap (λ (s : ℕ). draw_bytes n seed ++ (s / 2 ^ 33 % 256) ∷ []) is ∙ sym (draw_next n seed);
      seed = is ∙ sym (seed_next n seed);
    }
