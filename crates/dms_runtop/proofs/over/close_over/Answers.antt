use Rattle.std.proofs.Common.{◌∙◌, sym}
use Rattle.dms_runner.specs.declared.run.RunFault.TheVariants.{Block}
use Rattle.dms_runtop.proofs.Endings.{run_not_ok}
use Rattle.dms_runtop.proofs.Grows.{closed_few, left_unclosed}
use Rattle.dms_runtop.proofs.over.close_over.Goals as goal

pub returns-then-running-clause-closes : goal.returns-then-running-clause-closes
returns-then-running-clause-closes g c = left_unclosed g.S.Site c.args.running c.into_site.result c.into_site.ensures

pub returns-in-Ok-clause-closes : goal.returns-in-Ok-clause-closes
returns-in-Ok-clause-closes g c = record {
  leaves = c.in-Ok.ensures.leaves;
  points_are = λ ok tells. (c.in-Ok.ensures.closed tells).points_are;
  whole = λ ok tells. (c.in-Ok.ensures.closed tells).whole;
  next_is = λ ok tells. (c.in-Ok.ensures.closed tells).next_is ∙ sym (c.requires.goes tells).numbered;
  only = λ ok tells. (c.in-Ok.ensures.closed tells).only;
  grown = closed_few g.S.Site c.args.running _ c.if-running.false c.in-Ok.ensures.grown;
}

pub returns-in-Err-clause-closes : goal.returns-in-Err-clause-closes
returns-in-Err-clause-closes g c = record {
  leaves = c.in-Err.ensures.stopped;
  points_are = λ ok tells. absurd (run_not_ok (Block c.in-Err.fault) (sym c.status_of_block.ensures ∙ ok));
  whole = λ ok tells. absurd (run_not_ok (Block c.in-Err.fault) (sym c.status_of_block.ensures ∙ ok));
  next_is = λ ok tells. absurd (run_not_ok (Block c.in-Err.fault) (sym c.status_of_block.ensures ∙ ok));
  only = λ ok tells. absurd (run_not_ok (Block c.in-Err.fault) (sym c.status_of_block.ensures ∙ ok));
  grown = closed_few g.S.Site c.args.running _ c.if-running.false c.in-Err.ensures.grown;
}
