use Rattle.std.proofs.Common.{◌<◌, ℕ, refl, sym, subst, ◌∙◌}
use Rattle.dms_desc.specs.Shape.{shape_of}
use Rattle.dms_slots.specs.SlotBlocks.{per_block}
use Rattle.dms_rows.specs.AloneLaws.{walk_on, walk_stops}
use Rattle.dms_rows.proofs.alone.first_alone.Goals as goal

pub loop-place-preserved : goal.loop-place-preserved
loop-place-preserved c =
    let low : c.loop-place.place < per_block c.args.s.now.items = subst (λ (n : ℕ). c.loop-place.place < n) c.per_block-place-end.ensures.count c.loop-place-test.true in
    walk_on (shape_of c.args.s.now) c.loop-place.place (per_block c.args.s.now.items) c.width_of-width.result c.loop-place.rest.now c.ahead.result.now c.in_ok-read.read _ low c.width_of-width.ensures.width c.ahead.ensures
    c.in_ok-read.ensures c.loop-place.invariant c.behind-rest.result.now c.behind-rest.ensures (sym c.keeps_alone.ensures ∙ c.if-not-keeps_alone.false)
