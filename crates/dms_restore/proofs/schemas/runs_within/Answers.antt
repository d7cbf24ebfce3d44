use Rattle.std.proofs.Common.{None, take, sym, ◌∙◌, ap, arith}
use Rattle.dms_restore.specs.declared.schemas.SpanRun.{SpanRun}
use Rattle.dms_restore.specs.SchemaSpans.{span_told}
use Rattle.dms_restore.proofs.SpanRuns.{next_out, all_told}
use Rattle.dms_restore.proofs.schemas.runs_within.Goals as goal
use Rattle.dms_restore.proofs.schemas.runs_within.Goals.{then-run-kept, else-run-kept}

pub loop-i-preserved : goal.loop-i-preserved
loop-i-preserved c =
    let d : SpanRun = record { from = 0; span = None } in
    elim c.if-run-kept.branch [
      | then-run-kept w ↦ record {
        within = omega (arith, w.within-is);
        told = λ k low. ap (λ n. span_told (take n c.args.runs.now) k None) w.within-is;
      }
      | else-run-kept w ↦ record {
        within = omega (arith, w.within-is, c.loop-i.invariant.within);
        told = λ k low. ap (λ n. span_told (take n c.args.runs.now) k None) w.within-is ∙ c.loop-i.invariant.told k low
            ∙ sym (next_out c.args.runs.now c.loop-i.i k d c.loop-i-test.true (omega (arith, low, w.if-run-kept)));
      }
    ]

pub returns : goal.returns
returns c k low = c.loop-i.invariant.told k low ∙ all_told c.args.runs.now c.loop-i.i k (omega (arith, c.loop-i-test.false))
