use Rattle.dms_restore.proofs.ByDump.{rebuild_plans, reconstruct_plans}
use Rattle.dms_restore.proofs.DumpRuns.{runs_of_dumps}
use Rattle.dms_restore.proofs.laws.dumps_are_plans.Goals as goal

pub returns-clause-rebuild : goal.returns-clause-rebuild
returns-clause-rebuild c = rebuild_plans

pub returns-clause-reconstruct : goal.returns-clause-reconstruct
returns-clause-reconstruct c = reconstruct_plans

pub returns-clause-runs : goal.returns-clause-runs
returns-clause-runs c = runs_of_dumps
