use Rattle.dms_snapshot.proofs.Given.{plan_gives}
use Rattle.dms_snapshot.proofs.laws.snapshot_law.Goals as goal

pub returns : goal.returns
returns c = plan_gives
