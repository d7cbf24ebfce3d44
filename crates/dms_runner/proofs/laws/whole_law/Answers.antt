use Rattle.dms_runner.proofs.Whole.{whole_law}
use Rattle.dms_runner.proofs.laws.whole_law.Goals as goal

pub returns : goal.returns
returns c = whole_law
