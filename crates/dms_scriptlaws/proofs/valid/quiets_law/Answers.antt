use Rattle.dms_scriptlaws.proofs.Scripts.{stay_valid}
use Rattle.dms_scriptlaws.proofs.valid.quiets_law.Goals as goal

pub returns : goal.returns
returns c = stay_valid
