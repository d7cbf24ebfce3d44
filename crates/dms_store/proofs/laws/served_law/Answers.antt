use Rattle.dms_store.proofs.Served.{served}
use Rattle.dms_store.proofs.laws.served_law.Goals as goal

pub returns : goal.returns
returns c = served
