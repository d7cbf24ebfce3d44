use Rattle.dms_creation.proofs.Found.{made_is_found}
use Rattle.dms_creation.proofs.laws.what_is_made_is_found.Goals as goal

pub returns : goal.returns
returns c = made_is_found
