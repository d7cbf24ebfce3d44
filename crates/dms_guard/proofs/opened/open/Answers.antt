use Rattle.std.proofs.Common.{ℕ, ◌∙◌, inl, inr, length, ap, sym, subst, arith}
use Rattle.dms_site.specs.Files.{Files}
use Rattle.dms_opening.specs.declared.plan.OpeningPlan.{OpeningPlan}
use Rattle.dms_opening.specs.Openings.{CanOpen, HasFullTrail, IsTrailFound, OpensAt, RunsWhere}
use Rattle.dms_opening.specs.Plans.{Plans}
use Rattle.dms_opening.proofs.Growths.{grows_none}
use Rattle.dms_opening.proofs.Opens.{can_open, may_refuse, since_none}
use Rattle.dms_opening.proofs.Reading.{grows_back, not_full, since_back, whole_complete}
use Rattle.dms_guard.specs.Bare.{bare}
use Rattle.dms_guard.proofs.Besides.{beside_read, beside_within, may_written, opening_within, within_guarded}
use Rattle.dms_guard.proofs.opened.open.Goals as goal

-- ---- it was refused

pub returns-in-Err-clause-stopped : goal.returns-in-Err-clause-stopped
returns-in-Err-clause-stopped g c = λ tells. since_none g.S.Site g.met.S.Site.counts_now c.args.site c.in-Err.site c.in-Err.ensures.stays_then.moments

pub returns-in-Err-clause-grows_then : goal.returns-in-Err-clause-grows_then
returns-in-Err-clause-grows_then g c = λ tells. grows_none g.S.Site c.args.site c.in-Err.site (c.in-Err.ensures.stays_then.files tells) c.in-Err.ensures.stays_then.moments

pub returns-in-Err-clause-full : goal.returns-in-Err-clause-full
returns-in-Err-clause-full g c = λ tells full. absurd (not_full c.in-Err.refusal (c.in-Err.ensures.room tells) full)

pub returns-in-Err-clause-begun : goal.returns-in-Err-clause-begun
returns-in-Err-clause-begun g c = λ tells. inr (record { files = c.in-Err.ensures.stays_then.files tells; moments = c.in-Err.ensures.stays_then.moments; room = not_full c.in-Err.refusal (c.in-Err.ensures.room tells) })

pub returns-in-Err-clause-complete : goal.returns-in-Err-clause-complete
returns-in-Err-clause-complete g c = λ tells total first o. whole_complete (g.S.Site.files c.args.site) c.in-Err.refusal (c.in-Err.ensures.refused tells) total first o

pub returns-in-Err-clause-beside_then : goal.returns-in-Err-clause-beside_then
returns-in-Err-clause-beside_then g c = beside_read g.S.Site c.args.site c.in-Err.site c.in-Err.ensures.stays_then

-- ---- it was opened

pub returns-in-Ok-open-clause-opens : goal.returns-in-Ok-open-clause-opens
returns-in-Ok-open-clause-opens g c = λ tells.
    let st = c.guarded.ensures.stays c.args.site c.in-Ok.ensures.stays in
    subst (λ (f : Files). OpensAt c.in-Ok-open.opened.log.end.total c.in-Ok-open.opened.log.first f c.in-Ok-open.opened.point c.in-Ok-open.opened.next c.in-Ok-open.opened.schema.items c.in-Ok-open.opened.counts.items) (st.files tells)
    (c.in-Ok-open.ensures.opens tells (c.guarded.ensures.looked tells (c.in-Ok.ensures.looked tells)))

pub returns-in-Ok-open-clause-runs : goal.returns-in-Ok-open-clause-runs
returns-in-Ok-open-clause-runs g c = λ tells.
    let st = c.guarded.ensures.stays c.args.site c.in-Ok.ensures.stays in
    subst (λ (f : Files). RunsWhere g.S.Site f (bare c.in-Ok-open.opened)) (st.files tells) (λ whole. c.in-Ok-open.ensures.runs tells (c.guarded.ensures.looked tells (c.in-Ok.ensures.looked tells)) whole)

pub returns-in-Ok-open-clause-moments : goal.returns-in-Ok-open-clause-moments
returns-in-Ok-open-clause-moments g c = λ tells.
    let st = c.guarded.ensures.stays c.args.site c.in-Ok.ensures.stays in
    since_back g.S.Site g.met.S.Site.counts_now c.args.site c.guarded.result.log.site.site c.in-Ok-open.opened.log.site.site st tells (c.in-Ok-open.ensures.moments tells (c.guarded.ensures.looked tells (c.in-Ok.ensures.looked tells)))

pub returns-in-Ok-open-clause-grows : goal.returns-in-Ok-open-clause-grows
returns-in-Ok-open-clause-grows g c = λ tells.
    let st = c.guarded.ensures.stays c.args.site c.in-Ok.ensures.stays in
    let r = c.in-Ok-open.ensures.grows tells (c.guarded.ensures.looked tells (c.in-Ok.ensures.looked tells)) in
    grows_back g.S.Site c.args.site c.guarded.result.log.site.site c.in-Ok-open.opened.log.site.site st tells (record { kept = r.kept; left = r.left; few = r.few })

pub returns-in-Ok-open-clause-same : goal.returns-in-Ok-open-clause-same
returns-in-Ok-open-clause-same g c =
    let st = c.guarded.ensures.stays c.args.site c.in-Ok.ensures.stays in
    g.met.S.Site.same_then c.args.site c.guarded.result.log.site.site c.in-Ok-open.opened.log.site.site st.same c.in-Ok-open.ensures.same.same

pub returns-in-Ok-open-clause-within : goal.returns-in-Ok-open-clause-within
returns-in-Ok-open-clause-within g c =
    let st = c.guarded.ensures.stays c.args.site c.in-Ok.ensures.stays in
    let o = c.in-Ok-open.opened in
    within_guarded g.S.Site c.guarded.result.log.site.structures o.log.site.structures (length o.counts.items) c.args.site c.guarded.result.log.site.site o.log.site.site st c.in-Ok-open.ensures.same
    (c.guarded.ensures.many.0 ∙ sym (ap (λ v. length v.items) (c.in-Ok-open.ensures.plan.3 ∙ ap (λ (p : OpeningPlan). p.counts) c.guarded.ensures.kept.2)))

-- ---- it wasn't

pub returns-in-Err-open-clause-stopped : goal.returns-in-Err-open-clause-stopped
returns-in-Err-open-clause-stopped g c = λ tells.
    let st = c.guarded.ensures.stays c.args.site c.in-Ok.ensures.stays in
    since_back g.S.Site g.met.S.Site.counts_now c.args.site c.guarded.result.log.site.site c.in-Err-open.site.site st tells (c.in-Err-open.ensures.stopped tells (c.guarded.ensures.looked tells (c.in-Ok.ensures.looked tells)))

pub returns-in-Err-open-clause-grows_then : goal.returns-in-Err-open-clause-grows_then
returns-in-Err-open-clause-grows_then g c = λ tells.
    let st = c.guarded.ensures.stays c.args.site c.in-Ok.ensures.stays in
    let r = c.in-Err-open.ensures.grows_then tells (c.guarded.ensures.looked tells (c.in-Ok.ensures.looked tells)) in
    grows_back g.S.Site c.args.site c.guarded.result.log.site.site c.in-Err-open.site.site st tells (record { kept = r.kept; left = r.left; few = r.few })

pub returns-in-Err-open-clause-refused : goal.returns-in-Err-open-clause-refused
returns-in-Err-open-clause-refused g c = λ tells. may_refuse (g.S.Site.files c.args.site) c.in-Err-open.fault (c.in-Err-open.ensures.only tells (c.guarded.ensures.looked tells (c.in-Ok.ensures.looked tells)))

pub returns-in-Err-open-clause-full : goal.returns-in-Err-open-clause-full
returns-in-Err-open-clause-full g c = λ tells full.
    let st = c.guarded.ensures.stays c.args.site c.in-Ok.ensures.stays in
    subst (λ (f : Files). HasFullTrail f (g.S.Site.files c.in-Err-open.site.site)) (st.files tells) (c.in-Err-open.ensures.full tells (c.guarded.ensures.looked tells (c.in-Ok.ensures.looked tells)) full)

pub returns-in-Err-open-clause-begun : goal.returns-in-Err-open-clause-begun
returns-in-Err-open-clause-begun g c = λ tells.
    let l = c.in-Ok.ensures.looked tells in
    inl (subst CanOpen (c.in-Ok.ensures.stays.files tells) (can_open (g.S.Site.files c.in-Ok.planned.log.site) c.in-Ok.planned l.trail l.plans c.in-Ok.ensures.named c.in-Ok.ensures.ready.described), c.in-Ok.ensures.whole tells)

pub returns-in-Err-open-clause-complete : goal.returns-in-Err-open-clause-complete
returns-in-Err-open-clause-complete g c = λ tells total first o. may_written c.in-Err-open.fault (c.in-Err-open.ensures.only tells (c.guarded.ensures.looked tells (c.in-Ok.ensures.looked tells)))

pub returns-in-Err-open-clause-files_then : goal.returns-in-Err-open-clause-files_then
returns-in-Err-open-clause-files_then g c = λ tells none. absurd (none (c.in-Err-open.ensures.only tells (c.guarded.ensures.looked tells (c.in-Ok.ensures.looked tells))))

pub returns-in-Err-open-clause-moments_then : goal.returns-in-Err-open-clause-moments_then
returns-in-Err-open-clause-moments_then g c = λ tells none. absurd (none (c.in-Err-open.ensures.only tells (c.guarded.ensures.looked tells (c.in-Ok.ensures.looked tells))))

pub returns-in-Err-open-clause-same_then : goal.returns-in-Err-open-clause-same_then
returns-in-Err-open-clause-same_then g c =
    let st = c.guarded.ensures.stays c.args.site c.in-Ok.ensures.stays in
    g.met.S.Site.same_then c.args.site c.guarded.result.log.site.site c.in-Err-open.site.site st.same c.in-Err-open.ensures.same_then.same

pub returns-in-Err-open-clause-beside_then : goal.returns-in-Err-open-clause-beside_then
returns-in-Err-open-clause-beside_then g c =
    let st = c.guarded.ensures.stays c.args.site c.in-Ok.ensures.stays in
    let p = c.in-Ok.planned in
    let k = length p.plan.counts.items in
    beside_within g.S.Site k c.args.site c.in-Err-open.site.site c.in-Ok.ensures.ready.counts.few
    (λ tells.
    let l = c.in-Ok.ensures.looked tells in
    let same = c.in-Ok.ensures.stays.files tells in
    opening_within (g.S.Site.files c.args.site) p (subst (λ (f : Files). IsTrailFound p.log.end.total p.log.first f) same l.trail) (subst (λ (f : Files). Plans p.log.end.total p.log.first f p.plan) same l.plans) c.in-Ok.ensures.named)
    (within_guarded g.S.Site c.guarded.result.log.site.structures c.in-Err-open.site.structures k c.args.site c.guarded.result.log.site.site c.in-Err-open.site.site st c.in-Err-open.ensures.same_then c.guarded.ensures.many.0).1

pub returns-in-Ok-open-clause-counted : goal.returns-in-Ok-open-clause-counted
returns-in-Ok-open-clause-counted g c = omega (arith, c.in-Ok.ensures.clean, ap g.S.Site.disk_faults c.guarded.ensures.site, c.in-Ok-open.ensures.same.counted)

pub returns-in-Err-open-clause-counted_then : goal.returns-in-Err-open-clause-counted_then
returns-in-Err-open-clause-counted_then g c = omega (arith, c.in-Ok.ensures.clean, ap g.S.Site.disk_faults c.guarded.ensures.site, c.in-Err-open.ensures.same_then.counted)

pub returns-in-Ok-open-clause-clean : goal.returns-in-Ok-open-clause-clean
returns-in-Ok-open-clause-clean g c =
    let st = c.guarded.ensures.stays c.args.site c.in-Ok.ensures.stays in (
      omega (arith, c.in-Ok.ensures.clean, ap g.S.Site.disk_faults c.guarded.ensures.site, c.guarded.ensures.many.1, c.in-Ok-open.ensures.clean.0),
      c.in-Ok-open.ensures.clean.1 ∙ st.say_faults,
    )

pub returns-in-Ok-open-clause-said : goal.returns-in-Ok-open-clause-said
returns-in-Ok-open-clause-said g c =
    let st = c.guarded.ensures.stays c.args.site c.in-Ok.ensures.stays in
    c.in-Ok-open.ensures.said ∙ st.said

pub returns-in-Err-open-clause-said_then : goal.returns-in-Err-open-clause-said_then
returns-in-Err-open-clause-said_then g c =
    let st = c.guarded.ensures.stays c.args.site c.in-Ok.ensures.stays in
    c.in-Err-open.ensures.said_then ∙ st.said

pub returns-in-Err-open-clause-say_faults : goal.returns-in-Err-open-clause-say_faults
returns-in-Err-open-clause-say_faults g c =
    let st = c.guarded.ensures.stays c.args.site c.in-Ok.ensures.stays in
    c.in-Err-open.ensures.say_faults ∙ st.say_faults
