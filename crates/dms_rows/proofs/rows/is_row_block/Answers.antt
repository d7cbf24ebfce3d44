use Rattle.std.proofs.Common.{◌∙◌, ◌<◌, ℕ, ap, length, refl, subst, sym}
use Rattle.dms_desc.specs.Shape.{shape_of}
use Rattle.dms_slots.specs.SlotBlocks.{per_block}
use Rattle.dms_rows.specs.RowLaws.{is_whole, no_rows, walk_ends, walk_on, walk_stops}
use Rattle.dms_rows.proofs.rows.is_row_block.Goals as goal

pub returns-then-not-is_raw_slot : goal.returns-then-not-is_raw_slot
returns-then-not-is_raw_slot c =
    let low : c.loop-i._i < per_block c.args.s.now.items = subst (λ (n : ℕ). c.loop-i._i < n) c.per_block-i-end.ensures.count c.loop-i-test.true in
    no_rows (shape_of c.args.s.now) c.args.block.now.0 (walk_stops (shape_of c.args.s.now) c.loop-i._i (per_block c.args.s.now.items) c.width_of-width.result c.loop-i.rest.now c.ahead.result.now c.is_raw_slot.result _ low c.width_of-width.ensures.width c.ahead.ensures c.is_raw_slot.ensures c.if-not-is_raw_slot.true c.loop-i.invariant)

pub loop-i-preserved : goal.loop-i-preserved
loop-i-preserved c =
    let low : c.loop-i._i < per_block c.args.s.now.items = subst (λ (n : ℕ). c.loop-i._i < n) c.per_block-i-end.ensures.count c.loop-i-test.true in
    walk_on (shape_of c.args.s.now) c.loop-i._i (per_block c.args.s.now.items) c.width_of-width.result c.loop-i.rest.now c.ahead.result.now c.behind-rest.result.now c.is_raw_slot.result _ low c.width_of-width.ensures.width c.ahead.ensures c.behind-rest.ensures c.is_raw_slot.ensures c.if-not-is_raw_slot.false c.loop-i.invariant

pub returns : goal.returns
returns c =
    let whole = ap length (sym c.bytes_of-rest.ensures.same) ∙ c.bytes_of-rest.ensures.whole in
    is_whole (shape_of c.args.s.now) c.args.block.now.0 _ whole
    (c.are_zeros.ensures ∙ walk_ends (shape_of c.args.s.now) c.loop-i._i (per_block c.args.s.now.items) _ c.loop-i.rest.now _ c.per_block-i-end.ensures.count c.loop-i-test.false c.loop-i.invariant)
