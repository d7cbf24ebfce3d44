use Rattle.std.proofs.Common.{◌∙◌, refl, ap}
use Rattle.dms_restore.specs.Logging.{waits}
use Rattle.dms_wal.proofs.Reaching.{usable_alike, waits_same}
use Rattle.dms_opening.proofs.Runs.{starts_from, in_bounds, tells_at}
use Rattle.dms_opening.proofs.opened.Opened.into_running.Goals as goal

pub returns-in-Ok-new-clause-usable : goal.returns-in-Ok-new-clause-usable
returns-in-Ok-new-clause-usable g c from =
    let o = c.args.self in
    let copied = c.in-Ok.ensures.items_if_clones_equal (λ x y is. is) ∙ c.deref.ensures.value in
    usable_alike g.S.Site c.in-Ok-new.running _ (record { file = refl; total = refl; tag = refl; count = refl; used = refl; full = refl; block = refl; group = refl })
    (c.in-Ok-new.ensures.usable (in_bounds _ c.requires.described c.requires.table copied)
    (λ tells. starts_from (from tells).0 o.point o.next o.schema.items o.counts.items _ _ (from tells).1 refl refl refl refl copied))

pub returns-in-Ok-new-clause-tells : goal.returns-in-Ok-new-clause-tells
returns-in-Ok-new-clause-tells g c files from =
    let o = c.args.self in
    let r = c.in-Ok-new.ensures in
    tells_at g.S.Site c.in-Ok-new.running _ (record { file = refl; total = refl; tag = refl; count = refl; used = refl; full = refl; block = refl; group = refl }) files o.point o.next o.counts.items o.schema.items o.log r.log r.kept.3 r.every.2 from

pub returns-in-Ok-new-clause-nothing : goal.returns-in-Ok-new-clause-nothing
returns-in-Ok-new-clause-nothing g c none =
    let site = c.args.self.log.site in
    waits_same c.in-Ok-new.running.log.end _ (record { file = refl; total = refl; tag = refl; count = refl; used = refl; full = refl; block = refl; group = refl }) 0 (g.S.Site.files site) (g.S.Site.clock site)
    ∙ ap (λ log. waits log.end) c.in-Ok-new.ensures.log ∙ none
