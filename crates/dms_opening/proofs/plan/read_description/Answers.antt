use Rattle.std.proofs.Common.{inl, inr, List, ℕ, Some, sym, ◌∙◌, ap}
use Rattle.dms_restore.proofs.Results.{one_if_ok, one_if_err}
use Rattle.dms_opening.proofs.OpeningPlans.{none_there, bytes_there, read_fault}
use Rattle.dms_opening.proofs.plan.read_description.Goals as goal

pub returns-in-None-clause-only : goal.returns-in-None-clause-only
returns-in-None-clause-only g c tells total r lives =
    absurd (none_there c.points_have_schemas.ensures.lives total c.args.first (g.S.Site.files c.args.site.now) c.args.places.now c.args.trace.now c.args.point c.schema_span.result (sym c.in-None.is) c.schema_span.ensures r lives)

pub returns-in-Ok-clause-bytes : goal.returns-in-Ok-clause-bytes
returns-in-Ok-clause-bytes g c = one_if_ok c.fitting.result c.fitting.ensures.same (λ v same tells total r lives.
    bytes_there total c.args.first (g.S.Site.files c.args.site.now) c.args.places.now c.args.trace.now c.args.point c.schema_span.result c.in-Some.span c.in-Ok.bytes.items c.in-Some.is c.schema_span.ensures
    (λ ps are there. c.in-Ok.ensures.bytes tells ps are there) r lives ∙ ap (λ (l : List ℕ). Some l) (sym same))

pub returns-in-Ok-clause-only : goal.returns-in-Ok-clause-only
returns-in-Ok-clause-only g c = one_if_err c.fitting.result c.fitting.ensures.damaged (λ e damaged tells total r lives. inr (
  damaged.0,
  record {
    bytes = c.in-Ok.bytes.items;
    schema_is = bytes_there total c.args.first (g.S.Site.files c.args.site.now) c.args.places.now c.args.trace.now c.args.point c.schema_span.result c.in-Some.span c.in-Ok.bytes.items c.in-Some.is c.schema_span.ensures
        (λ ps are there. c.in-Ok.ensures.bytes tells ps are there) r lives;
    none = damaged.1;
  },
))

pub returns-in-Err-clause-only : goal.returns-in-Err-clause-only
returns-in-Err-clause-only g c tells total r lives =
    inl (read_fault g.S.Site.tells total c.args.first (g.S.Site.files c.args.site.now) c.args.places.now c.args.trace.now c.in-Err.fault c.in-Err.ensures.only tells r)
