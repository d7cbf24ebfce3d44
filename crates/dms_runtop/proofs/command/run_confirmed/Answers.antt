use Rattle.std.proofs.Common.{rules, ◌≡◌, ◌∙◌, ap, subst}
use Rattle.dms_moments.specs.Moments.{Steps}
use Rattle.dms_site.specs.Files.{Same}
use Rattle.dms_status.specs.declared.status.LimitKind.TheVariants.{AuditFile}
use Rattle.dms_status.specs.declared.status.Status.TheVariants.{Limit}
use Rattle.dms_guard.specs.Bare.{bare}
use Rattle.dms_guard.specs.Guard.{SameGuarded}
use Rattle.dms_guard.specs.GuardLaws.{guarded_then}
use Rattle.dms_runtop.proofs.Grows.{grows_upto}
use Rattle.dms_runtop.proofs.Instead.{full_place, opened_instead}
use Rattle.dms_runtop.proofs.Taking.{takes_full}
use Rattle.dms_runtop.proofs.command.run_confirmed.Goals as goal

pub returns-in-Limit-AuditFile-clause-ran : goal.returns-in-Limit-AuditFile-clause-ran
returns-in-Limit-AuditFile-clause-ran g c = λ knows.
    let was : c.run_known-ended.result.status ≡ Limit (AuditFile c.in-Limit-AuditFile.limit) = search rules in
    opened_instead g.S.Site g.met.S.Site.counts_now (bare c.args.opened) c.run_known-ended.result.site.site c.status_of_full-status.new.site.site _ _ c.run_known-ended.result.status c.status_of_full-status.result
    (full_place c.in-Limit-AuditFile.limit c.run_known-ended.result.status c.status_of_full-status.result was c.status_of_full-status.ensures.kind)
    (subst (λ x. Steps Same (g.S.Site.clock x.site) (g.S.Site.clock c.status_of_full-status.new.site.site)) c.into_site-site.ensures c.status_of_full-status.ensures.moments)
    (c.status_of_full-status.ensures.said ∙ ap (λ x. g.S.Site.said x.site) c.into_site-site.ensures) (λ tells. c.status_of_full-status.ensures.files tells ∙ ap (λ x. g.S.Site.files x.site) c.into_site-site.ensures)
    (c.run_known-ended.ensures.ran knows)

pub returns-in-Limit-AuditFile-clause-grown : goal.returns-in-Limit-AuditFile-clause-grown
returns-in-Limit-AuditFile-clause-grown g c = λ knows.
    grows_upto g.S.Site (bare c.args.opened) c.run_known-ended.result.site.site c.status_of_full-status.new.site.site (λ tells. c.status_of_full-status.ensures.files tells ∙ ap (λ x. g.S.Site.files x.site) c.into_site-site.ensures)
    (subst (λ x. Steps Same (g.S.Site.clock x.site) (g.S.Site.clock c.status_of_full-status.new.site.site)) c.into_site-site.ensures c.status_of_full-status.ensures.moments) (c.run_known-ended.ensures.grown knows)

pub returns-in-Limit-AuditFile-clause-takes : goal.returns-in-Limit-AuditFile-clause-takes
returns-in-Limit-AuditFile-clause-takes g c =
    let was : c.run_known-ended.result.status ≡ Limit (AuditFile c.in-Limit-AuditFile.limit) = search rules in
    takes_full g.I.Source c.args.source.now c.run_known-ended.new.source c.in-Limit-AuditFile.limit c.run_known-ended.result.status c.status_of_full-status.result was c.status_of_full-status.ensures.kind c.run_known-ended.ensures.takes

pub returns-in-Limit-AuditFile-clause-same : goal.returns-in-Limit-AuditFile-clause-same
returns-in-Limit-AuditFile-clause-same g c =
    let new = c.status_of_full-status.new.site in
    guarded_then g.met.S.Site.same_then _ c.args.opened.log.site.site _ c.run_known-ended.result.site.site _ new.site c.run_known-ended.ensures.same
    (subst (λ x. SameGuarded g.S.Site x.structures x.site new.structures new.site) c.into_site-site.ensures c.status_of_full-status.ensures.same_site)
