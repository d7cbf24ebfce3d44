use Rattle.dms_tally.specs.Used.{in_use_is}
use Rattle.dms_tally.proofs.laws.in_use_law.Goals as goal

pub returns : goal.returns
returns c = in_use_is
