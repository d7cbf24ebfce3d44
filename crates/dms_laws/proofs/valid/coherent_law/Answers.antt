use Rattle.dms_laws.proofs.Coherences.{stays_coherent}
use Rattle.dms_laws.proofs.valid.coherent_law.Goals as goal

pub returns : goal.returns
returns c = stays_coherent
