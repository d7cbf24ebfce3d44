use Rattle.dms_scriptlaws.proofs.Scripts.{tells_true}
use Rattle.dms_scriptlaws.proofs.truth.truth_law.Goals as goal

pub returns : goal.returns
returns c = tells_true
