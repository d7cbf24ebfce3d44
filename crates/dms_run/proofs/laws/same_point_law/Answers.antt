use Rattle.dms_run.proofs.SamePoints.{states_stay}
use Rattle.dms_run.proofs.laws.same_point_law.Goals as goal

pub returns : goal.returns
returns c = states_stay
