use Rattle.dms_points.proofs.Stands.{kept_live}
use Rattle.dms_points.proofs.laws.kept_points_law.Goals as goal

pub returns : goal.returns
returns c = kept_live
