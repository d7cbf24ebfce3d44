use Rattle.dms_flaws.proofs.Trails.{entries_agree}
use Rattle.dms_flaws.proofs.laws.entries_law.Goals as goal

pub returns : goal.returns
returns c = entries_agree
