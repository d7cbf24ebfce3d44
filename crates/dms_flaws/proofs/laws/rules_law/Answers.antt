use Rattle.dms_flaws.proofs.Ruled.{rules_agree}
use Rattle.dms_flaws.proofs.laws.rules_law.Goals as goal

pub returns : goal.returns
returns c = rules_agree
