use Rattle.dms_run.proofs.Stands.{end_stands, stand}
use Rattle.dms_run.proofs.laws.stands_law.Goals as goal

pub returns-clause-stops : goal.returns-clause-stops
returns-clause-stops c = stand

pub returns-clause-ends : goal.returns-clause-ends
returns-clause-ends c = end_stands
