use Rattle.std.proofs.Common.{arith}
use Rattle.dms_restore.proofs.SpanRuns.{length_spans}
use Rattle.dms_opening.proofs.describing.span_before.Goals as goal

pub returns-else-end-eq0 : goal.returns-else-end-eq0
returns-else-end-eq0 c some le = c.span_at.ensures (omega (arith, some, le, length_spans c.args.schemas.now.runs.items c.args.schemas.now.live))
