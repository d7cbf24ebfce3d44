use Rattle.dms_runner.proofs.Leaving.{left_law}
use Rattle.dms_runner.proofs.laws.left_law.Goals as goal

pub returns : goal.returns
returns c = left_law
