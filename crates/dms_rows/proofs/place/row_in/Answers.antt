use Rattle.std.proofs.Common.{◌∙◌, ◌*◌, ap, drop}
use Rattle.std.proofs.lemmas.Result.{IfOk-weaker}
use Rattle.dms_desc.specs.Shape.{shape_of}
use Rattle.dms_rows.specs.PlaceLaws.{place_is}
use Rattle.dms_rows.proofs.place.row_in.Goals as goal

pub returns : goal.returns
returns c =
    IfOk-weaker c.raw_slot.result _ _ (λ r is.
    place_is (shape_of c.args.s.now) c.args.block.now.0 c.behind-rest.result.now c.ahead.result.now c.args.place c.width_of-width.result r c.requires.place c.width_of-width.ensures.width
    (c.behind-rest.ensures ∙ ap (drop (c.args.place * c.width_of-width.result)) c.bytes_of.ensures.same) c.ahead.ensures is) c.raw_slot.ensures
