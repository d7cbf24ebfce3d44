use Rattle.std.proofs.Common.{◌+◌, drop, arith}
use Rattle.dms_stream.proofs.Steps.{is_none, is_some, none_size, some_size, there}
use Rattle.dms_stream.proofs.reader.StreamReader.next.Goals as goal

pub returns-then-self-ge-MOST_BYTES-clause-refused : goal.returns-then-self-ge-MOST_BYTES-clause-refused
returns-then-self-ge-MOST_BYTES-clause-refused g c = λ all remains.
    let fed = (rw c.in-Ok-Some.field-0-is at c.in-Ok-Some.ensures.byte) all remains in
    omega (arith, there c.in-Ok-Some.byte all fed.0, c.if-self-ge-MOST_BYTES.true)

pub returns-in-Ok-None-clause-took : goal.returns-in-Ok-None-clause-took
returns-in-Ok-None-clause-took g c = λ all remains.
    let fed = (rw c.in-Ok-None.field-0-is at c.in-Ok-None.ensures.byte) all remains in
    record { rest = drop 1 all; is = is_none (c.args.self.now.taken + 1) all fed.0; remains = fed.1; size = none_size c.args.self.now.taken all fed.0 }

pub returns-else-self-ge-MOST_BYTES-clause-took : goal.returns-else-self-ge-MOST_BYTES-clause-took
returns-else-self-ge-MOST_BYTES-clause-took g c = λ all remains.
    let fed = (rw c.in-Ok-Some.field-0-is at c.in-Ok-Some.ensures.byte) all remains in
    record { rest = drop 1 all; is = is_some (c.args.self.now.taken + 1) c.in-Ok-Some.byte all fed.0; remains = fed.1; size = some_size c.args.self.now.taken c.in-Ok-Some.byte all fed.0 }
