use Rattle.dms_stream.proofs.Steps.{byte_there, none_there}
use Rattle.dms_stream.proofs.reader.StreamReader.byte.Goals as goal

pub returns-in-Ok-Some-clause-took : goal.returns-in-Ok-Some-clause-took
returns-in-Ok-Some-clause-took g c = λ all remains.
    let is = (rw c.in-Ok-Some.field-0-is at c.in-Ok-Some.ensures.took) all remains in
    record { rest = is.rest; is = byte_there _ _ _ all is.rest is.is; remains = is.remains; size = is.size }

pub returns-in-Ok-None-clause-refused : goal.returns-in-Ok-None-clause-refused
returns-in-Ok-None-clause-refused g c = λ all remains.
    let is = (rw c.in-Ok-None.field-0-is at c.in-Ok-None.ensures.took) all remains in
    none_there _ _ all is.rest is.is
