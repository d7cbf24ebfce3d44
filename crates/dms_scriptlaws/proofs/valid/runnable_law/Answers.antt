use Rattle.dms_scriptlaws.proofs.Formed.{runnable}
use Rattle.dms_scriptlaws.proofs.valid.runnable_law.Goals as goal

pub returns : goal.returns
returns c = runnable
