use Rattle.std.proofs.Common.{None, List, ◌∙◌, ap, arith}
use Rattle.dms_restore.specs.declared.schemas.SpanRun.{SpanRun}
use Rattle.dms_restore.specs.SchemaSpans.{span_told, spans_of}
use Rattle.dms_restore.proofs.SpanRuns.{told_in, run_begun}
use Rattle.dms_restore.proofs.schemas.SchemaHistory.begin_run.Goals as goal

pub returns-clause-told : goal.returns-clause-told
returns-clause-told c =
    let h = c.args.self.now in
    ap (λ (l : List SpanRun). span_told l h.live None) c.in_ok-push.ensures.items ∙ told_in h.runs.items (record { from = h.live; span = h.last }) h.live (omega arith)

pub returns-clause-others : goal.returns-clause-others
returns-clause-others c =
    let h = c.args.self.now in
    ap (λ (l : List SpanRun). spans_of l h.live) c.in_ok-push.ensures.items ∙ run_begun h.runs.items h.live h.last
