use Rattle.dms_descfile.proofs.Found.{odd_unsealed}
use Rattle.dms_descfile.proofs.reading.read_description.Goals as goal

pub returns-in-Ok-None-clause-found : goal.returns-in-Ok-None-clause-found
returns-in-Ok-None-clause-found g c tells = odd_unsealed _ ((rw c.in-Ok-None.field-0-is at c.in-Ok-None.ensures.read) tells)
