use Rattle.dms_base.proofs.Spelled.{value_of_fits}
use Rattle.dms_base.proofs.laws.value_law.Goals as goal

pub returns : goal.returns
returns c = value_of_fits
