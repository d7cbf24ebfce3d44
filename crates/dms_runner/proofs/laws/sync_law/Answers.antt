use Rattle.dms_runner.proofs.Whole.{sync_law}
use Rattle.dms_runner.proofs.laws.sync_law.Goals as goal

pub returns : goal.returns
returns c = sync_law
