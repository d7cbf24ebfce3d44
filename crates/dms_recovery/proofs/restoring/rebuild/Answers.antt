use Rattle.std.proofs.Common.{[], refl, subst}
use Rattle.dms_site.specs.Files.{Only}
use Rattle.dms_restore.specs.Logging.{telling_of}
use Rattle.dms_recovery.specs.Leaving.{HoldsUpTo}
use Rattle.dms_recovery.specs.Wanting.{chosen_point}
use Rattle.dms_recovery.specs.declared.wanted.Wanted.TheVariants.{Rebuild}
use Rattle.dms_restore.proofs.Results.{one_if_ok, two_if_ok, one_if_err}
use Rattle.dms_recovery.proofs.Rolled.{may_rebuild, meant_rebuild}
use Rattle.dms_recovery.proofs.restoring.rebuild.Goals as goal

pub returns-clause-ends : goal.returns-clause-ends
returns-clause-ends g c = two_if_ok c.recover.result c.recover.ensures.ends c.recover.ensures.point (λ r ends point chosen from looked u t f tells trail is.
    let files = g.S.Site.files from in
    let d = c.args.dump in
    subst (λ n. HoldsUpTo (telling_of t f) u n (g.S.Site.files r.site) × Only (g.S.Site.files r.site) (g.S.Site.clock r.site)) (point (Rebuild d chosen) [] from (meant_rebuild d chosen) looked t f tells trail (chosen_point t f files chosen) refl)
    (ends (Rebuild d chosen) [] from (meant_rebuild d chosen) looked u t f tells (may_rebuild t f d chosen files u trail is)))

pub returns-clause-moments : goal.returns-clause-moments
returns-clause-moments g c = one_if_ok c.recover.result c.recover.ensures.moments (λ r moments chosen from looked u t f tells trail is.
    let files = g.S.Site.files from in
    let d = c.args.dump in
    moments (Rebuild d chosen) [] from (meant_rebuild d chosen) looked u t f (chosen_point t f files chosen) tells (may_rebuild t f d chosen files u trail is) refl)

pub returns-clause-stopped : goal.returns-clause-stopped
returns-clause-stopped g c = one_if_err c.recover.result c.recover.ensures.stopped (λ e moments chosen from looked u t f tells trail is.
    let files = g.S.Site.files from in
    let d = c.args.dump in
    moments (Rebuild d chosen) [] from (meant_rebuild d chosen) looked u t f (chosen_point t f files chosen) tells (may_rebuild t f d chosen files u trail is) refl)

pub returns-clause-point : goal.returns-clause-point
returns-clause-point g c = one_if_ok c.recover.result c.recover.ensures.point (λ r point chosen from looked tells t f trail.
    point (Rebuild c.args.dump chosen) [] from (meant_rebuild c.args.dump chosen) looked t f tells trail (chosen_point t f (g.S.Site.files from) chosen) refl)
