use Rattle.std.proofs.Common.{◌∙◌, Err, ap, arith}
use Rattle.dms_top.proofs.Taken.{reaches_on, reaches_end, reaches_long, reaches_over, reaches_cut}
use Rattle.dms_top.proofs.schema.schema_text.Goals as goal
use Rattle.dms_runner.proofs.Blames.{no_fault}

pub returns-in-Err-Long-clause-long : goal.returns-in-Err-Long-clause-long
returns-in-Err-Long-clause-long g c = λ _ all remains.
    let r = c.loop-line.invariant.reaches all remains in
    reaches_long _ _ all _ _ r (c.in-Err-Long.ensures.long (ap Err c.in-Err-Long.field-0-is) r.rest r.remains)

pub returns-in-Err-Input-clause-failed : goal.returns-in-Err-Input-clause-failed
returns-in-Err-Input-clause-failed g c = λ _ all remains.
    let r = c.loop-line.invariant.reaches all remains in
    reaches_cut _ _ all _ _ _ r (c.in-Err-Input.ensures.failed (ap Err c.in-Err-Input.field-0-is) r.rest r.remains)

pub returns-in-Ok-Script-clause-text : goal.returns-in-Ok-Script-clause-text
returns-in-Ok-Script-clause-text g c = λ all remains.
    let r = c.loop-line.invariant.reaches all remains in
    reaches_end _ _ _ all _ _ _ _ r ((rw c.in-Ok-Script.field-0-is at c.in-Ok-Script.ensures.line) r.rest r.remains)

pub returns-in-Ok-Last-clause-text : goal.returns-in-Ok-Last-clause-text
returns-in-Ok-Last-clause-text g c = λ all remains.
    let r = c.loop-line.invariant.reaches all remains in
    reaches_end _ _ _ all _ _ _ _ r ((rw c.in-Ok-Last.field-0-is at c.in-Ok-Last.ensures.line) r.rest r.remains)

pub loop-line-preserved : goal.loop-line-preserved
loop-line-preserved g c = record {
  same = g.met.I.Source.same_then _ _ _ c.loop-line.invariant.same c.schema_line.ensures.same;
  clean = c.in-Ok-Text.ensures.counted.clean (no_fault _ _) ∙ c.loop-line.invariant.clean;
  reaches = λ all remains.
      let r = c.loop-line.invariant.reaches all remains in
      reaches_on _ _ _ all _ _ _ _ r ((rw c.in-Ok-Text.field-0-is at c.in-Ok-Text.ensures.line) r.rest r.remains);
}

pub returns-clause-long : goal.returns-clause-long
returns-clause-long g c = λ _ all remains.
    reaches_over _ _ all _ _ (c.loop-line.invariant.reaches all remains) (omega (arith, c.loop-line-test.false))
