use Rattle.dms_history.proofs.Judging.{each_judged}
use Rattle.dms_history.proofs.laws.points_are_judged.Goals as goal

pub returns : goal.returns
returns c = each_judged
