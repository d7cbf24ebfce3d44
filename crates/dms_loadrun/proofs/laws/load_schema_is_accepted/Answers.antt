use Rattle.dms_loadrun.proofs.Accepted.{accepted}
use Rattle.dms_loadrun.proofs.laws.load_schema_is_accepted.Goals as goal

pub returns : goal.returns
returns c = accepted
