use Rattle.dms_run.proofs.Ending.{script_closes}
use Rattle.dms_run.proofs.Running.{part_leaves, script_ends}
use Rattle.dms_run.proofs.laws.engine_law.Goals as goal

pub returns-clause-stops : goal.returns-clause-stops
returns-clause-stops g c = part_leaves c.args.before.now c.args.after.now

pub returns-clause-ends : goal.returns-clause-ends
returns-clause-ends g c = script_ends c.args.before.now c.args.after.now

pub returns-clause-closes : goal.returns-clause-closes
returns-clause-closes g c = script_closes c.args.before.now c.args.after.now
