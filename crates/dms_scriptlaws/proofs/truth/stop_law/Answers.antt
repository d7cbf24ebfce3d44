use Rattle.dms_scriptlaws.proofs.Scripts.{stops_told}
use Rattle.dms_scriptlaws.proofs.truth.stop_law.Goals as goal

pub returns : goal.returns
returns c = stops_told
