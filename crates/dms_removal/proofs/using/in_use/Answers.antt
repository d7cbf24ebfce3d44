use Rattle.dms_desc.specs.Shape.{as_described}
use Rattle.dms_removal.specs.Removing.{forgotten}
use Rattle.dms_removal.proofs.using.in_use.Goals as goal

pub returns : goal.returns
returns g c = forgotten (as_described c.args.desc.now) c.args.set c.args.number c.look-answer.result c.args.over.now c.look-answer.new.over c.forget.new.self c.look-answer.ensures c.forget.ensures.below c.forget.ensures.written
