use Rattle.std.proofs.Common.{◌∙◌, ap}
use Rattle.dms_calls.specs.World.{World}
use Rattle.dms_memcalls.specs.Steady.{alike_world}
use Rattle.dms_memcalls.proofs.story.Story.find.Goals as goal

pub returns : goal.returns
returns c = c.find.ensures ∙ ap (λ (w : World). w.names c.args.name.now) (alike_world _ _ c.args.self.now.alike)
