use Rattle.dms_run.proofs.NoLater.{tell_no_later}
use Rattle.dms_run.proofs.laws.told_law.Goals as goal

pub returns : goal.returns
returns c = tell_no_later
