-- A description that is compiled is well-formed.
use Rattle.dms_desc.specs.Shape.{as_described}
use Rattle.dms_storetests.proofs.running.description.Goals as goal

pub returns-in-Ok-compile : goal.returns-in-Ok-compile
returns-in-Ok-compile c = c.well_formed_law.ensures c.args.text.now c.in-Ok.schema (as_described c.in-Ok-compile.desc) c.in-Ok.ensures c.in-Ok-compile.ensures
