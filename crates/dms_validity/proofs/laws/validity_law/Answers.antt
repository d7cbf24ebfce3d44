use Rattle.dms_validity.proofs.Valids.{spelled_is_valid}
use Rattle.dms_validity.proofs.laws.validity_law.Goals as goal

pub returns : goal.returns
returns c = spelled_is_valid
