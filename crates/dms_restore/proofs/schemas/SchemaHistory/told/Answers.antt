use Rattle.std.proofs.Common.{◌<◌, ◌-◌, length, sym, ◌∙◌, ap, arith}
use Rattle.std.proofs.lemmas.Bool.Decides.{nat_tests}
use Rattle.dms_restore.specs.declared.schemas.SpanRun.{SpanRun}
use Rattle.dms_restore.proofs.SpanRuns.{last_told}
use Rattle.dms_restore.proofs.schemas.SchemaHistory.told.Goals as goal

pub returns-then-run-self : goal.returns-then-run-self
returns-then-run-self c =
    let runs = c.args.self.now.runs.items in
    let d = c.index-run.result.now in
    let some : 0 < length runs = grind (arith, nat_tests, c.if-is_empty.false, c.is_empty.ensures) in
    ap (λ (r : SpanRun). r.span) c.index-run.ensures
    ∙ sym (last_told runs (c.len.result - 1) c.args.self.now.live d (omega (arith, some, c.len.ensures)) (omega (arith, c.if-run-self.true, ap (λ (r : SpanRun). r.from) c.index-run.ensures)))
