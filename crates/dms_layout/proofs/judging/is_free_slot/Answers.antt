use Rattle.std.proofs.Common.{◌∙◌, ap}
use Rattle.dms_desc.specs.Shape.{shape_of}
use Rattle.dms_layout.specs.Judging.{free_read}
use Rattle.dms_layout.specs.Slots.{is_free}
use Rattle.dms_layout.proofs.judging.is_free_slot.Goals as goal

pub returns : goal.returns
returns c = c.is_free.ensures ∙ ap (λ l. is_free l c.args.bytes.now) c.as_slice.ensures ∙ free_read (shape_of c.args.desc.now) c.args.bytes.now
