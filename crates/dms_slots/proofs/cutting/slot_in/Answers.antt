use Rattle.std.proofs.Common.{◌∙◌, sym, ap, take}
use Rattle.std.proofs.lemmas.Result.{IfOk-weaker}
use Rattle.dms_desc.specs.Shape.{shape_of}
use Rattle.dms_slots.specs.SlotBlockLaws.{place_in, place_bad}
use Rattle.dms_slots.proofs.cutting.slot_in.Goals as goal

pub returns-then-not-is_block : goal.returns-then-not-is_block
returns-then-not-is_block c = place_bad (shape_of c.args.s.now) c.args.block.now.0 c.args.place c.requires.place (sym c.is_block.ensures ∙ c.if-not-is_block.true)

pub returns : goal.returns
returns c =
    IfOk-weaker c.from_slot.result _ _ (λ r is.
    place_in (shape_of c.args.s.now) c.args.block.now.0 c.ahead.result.now c.args.place c.width_of-width.result r c.requires.place (sym c.is_block.ensures ∙ c.if-not-is_block.false) c.width_of-width.ensures.width (c.ahead.ensures ∙ ap (take c.width_of-width.result) c.behind.ensures) is) c.from_slot.ensures
