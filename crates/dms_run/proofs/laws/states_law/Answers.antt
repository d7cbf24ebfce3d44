use Rattle.dms_run.proofs.Holding.{states_hold}
use Rattle.dms_run.proofs.laws.states_law.Goals as goal

pub returns : goal.returns
returns c = states_hold c.held_law.ensures.state
