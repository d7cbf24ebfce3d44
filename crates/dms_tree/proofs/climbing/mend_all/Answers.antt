use Rattle.std.proofs.Common.{◌≡◌, ◌+◌, ◌*◌, ◌≤◌, ◌<◌, ◌∙◌, refl, length, arith}
use Rattle.dms_block.specs.View.{seen_counts}
use Rattle.dms_tree.specs.Climbs.{Climbs, climbs_none, climbs_on}
use Rattle.dms_tree.specs.UpMates.{hold_size}
use Rattle.dms_tree.proofs.climbing.mend_all.Goals as goal

pub loop-over-init : goal.loop-over-init
loop-over-init g c = record { below = refl; climbs = climbs_none c.args.over.now c.args.file c.args.start c.requires.holds; more = omega arith }

pub loop-over-preserved : goal.loop-over-preserved
loop-over-preserved g c =
    let before = c.loop-over.invariant in
    record {
      below = c.mend_one.ensures.below ∙ before.below;
      climbs = climbs_on c.args.over.now c.loop-over.over c.mend_one.new.over c.args.file c.args.start c.loop-over.climb c.in_ok-climb.climb before.below before.climbs c.in_ok-climb.ensures.climbs;
      more = omega (arith, before.more, c.mend_one.ensures.more, c.in_ok-climb.ensures.fewer);
    }

pub returns-in_err-climb-clause-more : goal.returns-in_err-climb-clause-more
returns-in_err-climb-clause-more g c =
    let before = c.loop-over.invariant in
    let d = c.loop-over.climb in
    omega (arith, before.more, c.mend_one.ensures.more, c.is_short.ensures.more c.loop-over-test.true, hold_size d.gap.width (seen_counts c.loop-over.over c.args.file) d.gap.path.items d.mates.items before.climbs.holds.mates)

pub is_short-requires : goal.is_short-requires
is_short-requires g c = record { wide = c.loop-over.invariant.climbs.holds.gap.wide_is.most }
