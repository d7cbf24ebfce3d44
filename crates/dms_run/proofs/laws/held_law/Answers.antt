use Rattle.dms_run.proofs.Held.{held}
use Rattle.dms_run.proofs.Lives.{next_is_one}
use Rattle.dms_run.proofs.laws.held_law.Goals as goal

pub returns-clause-state : goal.returns-clause-state
returns-clause-state c = held

pub returns-clause-next : goal.returns-clause-next
returns-clause-next c = next_is_one
