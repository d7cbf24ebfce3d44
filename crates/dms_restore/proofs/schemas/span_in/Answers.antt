use Rattle.std.proofs.Common.{None, sym, ◌∙◌, arith}
use Rattle.dms_restore.specs.declared.schemas.SpanRun.{SpanRun}
use Rattle.dms_restore.proofs.SpanRuns.{next_in, next_out, all_told}
use Rattle.dms_restore.proofs.schemas.span_in.Goals as goal
use Rattle.dms_restore.proofs.schemas.span_in.Goals.{then-run-at, else-run-at}

pub loop-run-preserved : goal.loop-run-preserved
loop-run-preserved c =
    let d : SpanRun = record { from = 0; span = None } in
    elim c.if-run-at.branch [
      | then-run-at w ↦ w.found-is ∙ sym (next_in c.args.runs.now c.loop-run.run-index c.args.at d c.loop-run-test.true (omega (arith, w.if-run-at)))
      | else-run-at w ↦ w.found-is ∙ c.loop-run.invariant ∙ sym (next_out c.args.runs.now c.loop-run.run-index c.args.at d c.loop-run-test.true (omega (arith, w.if-run-at)))
    ]

pub returns : goal.returns
returns c = c.loop-run.invariant ∙ all_told c.args.runs.now c.loop-run.run-index c.args.at (omega (arith, c.loop-run-test.false))
