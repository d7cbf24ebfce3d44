use Rattle.std.proofs.Common.{◌≡◌, take, None}
use Rattle.dms_restore.specs.SchemaSpans.{span_told}
use Rattle.dms_restore.proofs.schemas.span_in.Given as goal

abbrev pub invariant-loop-run : goal.invariant-loop-run
invariant-loop-run l = l.found ≡ span_told (take l.run-index l.runs) l.at None
