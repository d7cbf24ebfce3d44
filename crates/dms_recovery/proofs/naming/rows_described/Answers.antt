use Rattle.dms_restore.proofs.Results.{one_if_ok, one_if_err}
use Rattle.dms_recovery.proofs.Named.{finds_described, finds_nothing, has_described, has_nothing, lacks_described, lacks_nothing}
use Rattle.dms_recovery.proofs.naming.rows_described.Goals as goal

pub returns-in-Ok-Some-clause-finds : goal.returns-in-Ok-Some-clause-finds
returns-in-Ok-Some-clause-finds c =
    let found = rw c.in-Ok-Some.field-0-is at c.in-Ok-Some.ensures in
    one_if_ok c.find_rows.result c.find_rows.ensures.rows (λ rows are. finds_described c.args.schema.now c.in-Ok-Some.desc c.as_slice.result.now c.args.named.now rows.items c.spelling_law.ensures found c.as_slice.ensures are)

pub returns-in-Ok-Some-clause-lacks : goal.returns-in-Ok-Some-clause-lacks
returns-in-Ok-Some-clause-lacks c =
    let found = rw c.in-Ok-Some.field-0-is at c.in-Ok-Some.ensures in
    one_if_err c.find_rows.result c.find_rows.ensures.missing (λ e missing r is. lacks_described c.args.schema.now c.args.counts.now c.in-Ok-Some.desc c.as_slice.result.now c.args.named.now r c.spelling_law.ensures found c.as_slice.ensures (missing r is))

pub returns-in-Ok-None-clause-finds : goal.returns-in-Ok-None-clause-finds
returns-in-Ok-None-clause-finds c =
    let none = rw c.in-Ok-None.field-0-is at c.in-Ok-None.ensures in
    one_if_ok c.find_rows-in-Ok-None.result c.find_rows-in-Ok-None.ensures.rows (λ rows are. finds_nothing c.args.schema.now c.args.named.now rows.items none are)

pub returns-in-Ok-None-clause-lacks : goal.returns-in-Ok-None-clause-lacks
returns-in-Ok-None-clause-lacks c =
    let none = rw c.in-Ok-None.field-0-is at c.in-Ok-None.ensures in
    one_if_err c.find_rows-in-Ok-None.result c.find_rows-in-Ok-None.ensures.missing (λ e missing r is. lacks_nothing c.args.schema.now c.args.counts.now c.args.named.now r none (missing r is))

pub returns-in-Ok-Some-clause-there : goal.returns-in-Ok-Some-clause-there
returns-in-Ok-Some-clause-there c =
    let found = rw c.in-Ok-Some.field-0-is at c.in-Ok-Some.ensures in
    one_if_ok c.find_rows.result c.find_rows.ensures.there (λ rows each. has_described c.args.schema.now c.args.counts.now c.in-Ok-Some.desc c.as_slice.result.now c.args.named.now c.spelling_law.ensures found c.as_slice.ensures each)

pub returns-in-Ok-None-clause-there : goal.returns-in-Ok-None-clause-there
returns-in-Ok-None-clause-there c =
    let none = rw c.in-Ok-None.field-0-is at c.in-Ok-None.ensures in
    one_if_ok c.find_rows-in-Ok-None.result c.find_rows-in-Ok-None.ensures.there (λ rows each. has_nothing c.args.schema.now c.args.counts.now c.args.named.now none each)
