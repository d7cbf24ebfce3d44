use Rattle.dms_runner.proofs.Fronts.{front_law}
use Rattle.dms_runner.proofs.laws.front_law.Goals as goal

pub returns : goal.returns
returns c = front_law
