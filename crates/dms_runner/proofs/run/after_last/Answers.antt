use Rattle.std.proofs.Common.{List, ℕ, ap, subst, Err, length, arith}
use Rattle.dms_feed.specs.Feeds.{Remains}
use Rattle.dms_feed.specs.Lines.{first_line, after_line}
use Rattle.dms_runner.proofs.run.after_last.Goals as goal

pub returns-in-Ok-None-clause-end : goal.returns-in-Ok-None-clause-end
returns-in-Ok-None-clause-end g c = λ all remains.
    let e = (rw c.in-Ok-None.field-0-is at c.in-Ok-None.ensures.line) all remains in
    (e.0, subst (λ (r : List ℕ). Remains c.next_raw.new.feed (g.I.Source.left c.next_raw.new.source) r) (ap after_line e.0) e.1)

pub returns-in-Err-Bytes-clause-lines : goal.returns-in-Err-Bytes-clause-lines
returns-in-Err-Bytes-clause-lines g c = λ _ all remains none.
    absurd (omega (arith, c.in-Err-Bytes.ensures.bytes (ap Err c.in-Err-Bytes.field-0-is) all remains, ap (λ (l : List ℕ). length (first_line l)) none))

pub returns-in-Ok-Some-clause-lines : goal.returns-in-Ok-Some-clause-lines
returns-in-Ok-Some-clause-lines g c = λ _ all remains.
    let e = (rw c.in-Ok-Some.field-0-is at c.in-Ok-Some.ensures.line) all remains in
    e.0.0
