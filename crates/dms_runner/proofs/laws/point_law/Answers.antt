use Rattle.dms_runner.proofs.Whole.{point_law}
use Rattle.dms_runner.proofs.laws.point_law.Goals as goal

pub returns : goal.returns
returns c = point_law
