use Rattle.dms_shapes.proofs.LevelSteps.{none_added}
use Rattle.dms_shapes.proofs.level.add_fence.Goals as goal

pub returns-in-None : goal.returns-in-None
returns-in-None c = none_added c.args.fences.now.items c.args.above.now c.args.place c.in-None.ensures.lookup.0
