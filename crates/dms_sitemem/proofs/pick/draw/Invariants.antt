use Rattle.std.proofs.Common.{◌≡◌}
use Rattle.dms_sitemem.specs.Picks.{draw_bytes, seed_after}
use Rattle.dms_sitemem.proofs.pick.draw.Given as goal

abbrev pub invariant-loop-place : goal.invariant-loop-place
invariant-loop-place l = record {
  bytes : l.bytes.items ≡ draw_bytes l._place l.fn.seed;
  seed : l.seed ≡ seed_after l._place l.fn.seed;
}
