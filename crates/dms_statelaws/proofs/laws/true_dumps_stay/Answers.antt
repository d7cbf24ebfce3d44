use Rattle.dms_statelaws.proofs.DumpsKept.{dumps_stay}
use Rattle.dms_statelaws.proofs.laws.true_dumps_stay.Goals as goal

pub returns : goal.returns
returns c = dumps_stay
