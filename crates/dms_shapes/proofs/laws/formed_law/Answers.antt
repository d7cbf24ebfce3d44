use Rattle.dms_shapes.specs.Formed.{formed_in_list}
use Rattle.dms_shapes.proofs.laws.formed_law.Goals as goal

pub returns : goal.returns
returns c = formed_in_list
