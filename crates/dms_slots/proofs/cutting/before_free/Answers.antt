use Rattle.std.proofs.Common.{◌∙◌, ◌<◌, ℕ, refl, subst, sym}
use Rattle.dms_desc.specs.Shape.{shape_of}
use Rattle.dms_layout.specs.Slots.{slot_of}
use Rattle.dms_slots.specs.SlotBlocks.{per_block}
use Rattle.dms_slots.specs.SlotBlockLaws.{count_on, count_stops}
use Rattle.dms_slots.proofs.cutting.before_free.Goals as goal

pub returns-then-is_free-clause-first : goal.returns-then-is_free-clause-first
returns-then-is_free-clause-first c =
    let low : c.loop-i.i < per_block c.args.s.now.items = subst (λ (n : ℕ). c.loop-i.i < n) c.per_block-per.ensures.count c.loop-i-test.true in
    count_stops (shape_of c.args.s.now) c.loop-i.i (per_block c.args.s.now.items) c.width_of-width.result _ c.loop-i.rest.now c.ahead.result.now (slot_of (shape_of c.args.s.now) c.ahead.result.now) low c.width_of-width.ensures.width c.ahead.ensures refl (sym c.is_free.ensures ∙ c.if-is_free.true) c.loop-i.invariant

pub loop-i-preserved : goal.loop-i-preserved
loop-i-preserved c =
    let low : c.loop-i.i < per_block c.args.s.now.items = subst (λ (n : ℕ). c.loop-i.i < n) c.per_block-per.ensures.count c.loop-i-test.true in
    count_on (shape_of c.args.s.now) c.loop-i.i (per_block c.args.s.now.items) c.width_of-width.result _ c.loop-i.rest.now c.ahead.result.now c.behind-rest.result.now (slot_of (shape_of c.args.s.now) c.ahead.result.now) low c.width_of-width.ensures.width c.ahead.ensures c.behind-rest.ensures refl (sym c.is_free.ensures ∙ c.if-is_free.false) c.loop-i.invariant
