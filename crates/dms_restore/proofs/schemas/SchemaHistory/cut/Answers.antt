use Rattle.std.proofs.Common.{◌≡◌, ℕ, ◌<◌, None, take, List, Option, sym, ◌∙◌, ap}
use Rattle.dms_restore.specs.declared.schemas.SchemaSpan.{SchemaSpan}
use Rattle.dms_restore.specs.declared.schemas.SpanRun.{SpanRun}
use Rattle.dms_restore.specs.SchemaSpans.{last_span, span_told, spans_of}
use Rattle.dms_restore.proofs.SpanRuns.{cut_spans}
use Rattle.dms_restore.proofs.schemas.SchemaHistory.cut.Goals as goal

pub returns-clause-before : goal.returns-clause-before
returns-clause-before c =
    let runs = c.args.self.now.runs.items in
    let within : (k : ℕ) → k < c.args.kept → span_told (take c.runs_within-within.result runs) k None ≡ span_told runs k None =
    λ k low. ap (λ (l : List SpanRun). span_told (take c.runs_within-within.result l) k None) (sym c.deref.ensures.value) ∙ c.runs_within-within.ensures k low ∙ ap (λ (l : List SpanRun). span_told l k None) c.deref.ensures.value in
    ap (λ (l : List SpanRun). spans_of l c.min-self.result) c.truncate.ensures.items
    ∙ cut_spans runs c.args.self.now.live c.args.kept c.min-self.result c.runs_within-within.result c.min-self.ensures within

pub returns-clause-last : goal.returns-clause-last
returns-clause-last c = c.last_in-self.ensures ∙ ap (λ (l : List SpanRun). last_span (spans_of l c.min-self.result)) c.deref-2.ensures.value
    ∙ ap (λ (l : List (Option SchemaSpan)). last_span l) (returns-clause-before c)
