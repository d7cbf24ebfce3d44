use Rattle.dms_scriptlaws.proofs.Spelled.{point_told}
use Rattle.dms_scriptlaws.proofs.truth.told_law.Goals as goal

pub returns : goal.returns
returns c = point_told
