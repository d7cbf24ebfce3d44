use Rattle.std.proofs.Common.{None, List, sym, ◌∙◌, ap}
use Rattle.dms_restore.specs.declared.schemas.SpanRun.{SpanRun}
use Rattle.dms_restore.specs.SchemaSpans.{span_told}
use Rattle.dms_restore.proofs.SpanRuns.{at_spans}
use Rattle.dms_restore.proofs.schemas.SchemaHistory.span_at.Goals as goal

pub returns : goal.returns
returns c low =
    c.span_in.ensures ∙ ap (λ (l : List SpanRun). span_told l c.args.at None) c.deref.ensures.value
    ∙ sym (at_spans c.args.self.now.runs.items c.args.self.now.live c.args.at low)
