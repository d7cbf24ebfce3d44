use Rattle.dms_restore.proofs.Results.{one_if_ok, one_if_err}
use Rattle.dms_opening.proofs.Describes.{span_read, none_within}
use Rattle.dms_opening.proofs.describing.read_schema.Goals as goal

pub returns-clause-bytes : goal.returns-clause-bytes
returns-clause-bytes g c = one_if_ok c.read_parts.result c.read_parts.ensures.bytes (λ v read tells. span_read (g.S.Site.files c.args.site.now) c.args.span.now c.args.places.now c.parts_of.result.now v.items c.parts_of.ensures (read tells))

pub returns-clause-only : goal.returns-clause-only
returns-clause-only g c =
    one_if_err c.read_parts.result c.read_parts.ensures.only (λ e only. none_within g.S.Site.tells (g.S.Site.files c.args.site.now) c.args.span.now.parts c.args.span.now.first c.args.places.now c.parts_of.result.now e c.parts_of.ensures only)
