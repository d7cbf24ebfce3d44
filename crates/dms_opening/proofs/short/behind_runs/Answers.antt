use Rattle.std.proofs.Common.{arith, get_or, take_all}
use Rattle.dms_restore.specs.declared.run.Run.{Run}
use Rattle.dms_opening.specs.Short.{is_in_run}
use Rattle.dms_opening.proofs.Going.{goes_more, goes_all, no_run, steps_run}
use Rattle.dms_opening.proofs.short.behind_runs.Goals as goal

pub loop-run-preserved : goal.loop-run-preserved
loop-run-preserved c =
    goes_more (λ b (t : Run). is_in_run c.args.file b t) c.args.runs.now c.loop-run.run-index no_run c.args.from c.loop-run.next c.past_run-next.result c.loop-run-test.true
    (steps_run c.args.file c.loop-run.next c.past_run-next.result (get_or c.args.runs.now c.loop-run.run-index no_run) c.past_run-next.ensures) c.loop-run.invariant

pub returns : goal.returns
returns c = goes_all (λ b (t : Run). is_in_run c.args.file b t) c.args.runs.now c.loop-run.run-index c.args.from c.loop-run.next (take_all c.loop-run.run-index c.args.runs.now (omega (arith, c.loop-run-test.false))) c.loop-run.invariant
