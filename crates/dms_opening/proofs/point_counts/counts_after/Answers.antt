use Rattle.std.proofs.Common.{◌∙◌}
use Rattle.dms_opening.proofs.Counted.{none_counted, none_behind, counted_all, small_none, small_all}
use Rattle.dms_opening.proofs.point_counts.counts_after.Goals as goal

pub returns-in-Ok-to_vec-clause-counts : goal.returns-in-Ok-to_vec-clause-counts
returns-in-Ok-to_vec-clause-counts g c tells f =
    counted_all (g.S.Site.files c.args.site.now) c.args.live.now c.counted_from.result f c.clear.new.counts c.count_all.new.counts c.in-Ok-to_vec.counts.items (c.in-Ok-to_vec.ensures.items_if_clones_equal (λ x y same. same) ∙ c.as_slice.ensures)
    (c.in-Ok.ensures.counts tells f) (none_counted c.clear.new.counts c.clear.ensures f) (c.counted_from.ensures.counts (g.S.Site.files c.args.site.now) f)

pub returns-in-Ok-to_vec-clause-small : goal.returns-in-Ok-to_vec-clause-small
returns-in-Ok-to_vec-clause-small g c =
    small_all c.count_all.new.counts c.in-Ok-to_vec.counts.items (c.in-Ok-to_vec.ensures.items_if_clones_equal (λ x y same. same) ∙ c.as_slice.ensures) (c.in-Ok.ensures.small (small_none c.clear.new.counts c.clear.ensures))

pub returns-in-Err-clause-only : goal.returns-in-Err-clause-only
returns-in-Err-clause-only g c = none_behind g.S.Site.tells (g.S.Site.files c.args.site.now) c.counted_from.result c.args.live.now c.in-Err.fault c.in-Err.ensures.only
