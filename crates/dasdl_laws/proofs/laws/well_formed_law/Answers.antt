use Rattle.dasdl_laws.proofs.Sound.{well_formed}
use Rattle.dasdl_laws.proofs.laws.well_formed_law.Goals as goal

pub returns : goal.returns
returns c = well_formed
