use Rattle.dms_run.proofs.Words.{one_state}
use Rattle.dms_run.proofs.laws.state_law.Goals as goal

pub returns : goal.returns
returns c = one_state
