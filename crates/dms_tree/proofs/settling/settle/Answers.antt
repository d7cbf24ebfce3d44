use Rattle.std.proofs.Common.{◌≡◌, ◌+◌, ◌*◌, ◌≤◌, ◌<◌, ◌∙◌, subst, length, arith}
use Rattle.dms_block.specs.View.{seen_counts}
use Rattle.dms_tree.specs.Settling.{Settles, settles_on, writes_full}
use Rattle.dms_tree.proofs.settling.settle.Goals as goal

pub returns-in_err-hole-clause-more : goal.returns-in_err-hole-clause-more
returns-in_err-hole-clause-more g c =
    let before = c.loop-hole.invariant in
    let size : c.len.result ≡ length c.loop-hole.hole.inner.seps.items = omega (arith, c.len.ensures) in
    let many : 1017 < length c.loop-hole.hole.inner.seps.items * (c.loop-hole.hole.width + 4) = subst (λ n. 1017 < n * (c.loop-hole.hole.width + 4)) size c.loop-hole-test.true in
    omega (arith, before.more, c.part.ensures.more, writes_full c.loop-hole.hole many)

pub loop-hole-preserved : goal.loop-hole-preserved
loop-hole-preserved g c =
    let before = c.loop-hole.invariant in
    record {
      below = c.part.ensures.below ∙ before.below;
      settles = settles_on c.args.over.now c.loop-hole.over c.part.new.over c.args.file c.args.hole c.loop-hole.hole c.in_ok-hole.hole before.below before.settles c.in_ok-hole.ensures.settles;
      width_is = c.in_ok-hole.ensures.width ∙ before.width_is;
      more = omega (arith, before.more, c.part.ensures.more, c.in_ok-hole.ensures.left);
    }
