use Rattle.dms_remote.proofs.shipment.description_bytes.Goals as goal

pub returns-in-Ok-None-clause-none : goal.returns-in-Ok-None-clause-none
returns-in-Ok-None-clause-none g c = λ tells. (rw c.in-Ok-None.field-0-is at c.in-Ok-None.ensures.found) tells
