use Rattle.std.proofs.Common.{◌∙◌, ap}
use Rattle.dms_restore.specs.SchemaSpans.{span_bytes}
use Rattle.dms_opening.proofs.Describes.{schema_there, no_place_there}
use Rattle.dms_opening.proofs.describing.schema_span.Goals as goal

pub returns-in-None : goal.returns-in-None
returns-in-None c files entries is found = absurd (no_place_there files entries c.args.trace.now c.args.point c.deref.result.now c.deref.ensures.value (c.in-None.ensures.nowhere files) is found)

pub returns-in-Some : goal.returns-in-Some
returns-in-Some c files entries is found =
    let t = schema_there files entries c.args.trace.now c.args.point c.in-Some.end c.deref.result.now c.deref.ensures.value c.in-Some.ensures.within (c.in-Some.ensures.front files) is found in
    ap (span_bytes entries) (c.span_before.ensures t.some t.within) ∙ t.is
