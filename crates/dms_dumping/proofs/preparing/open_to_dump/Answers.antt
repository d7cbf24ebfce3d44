use Rattle.std.proofs.Common.{ℕ, ◌≡◌, ◌≤◌, ◌+◌, ◌∙◌, inl, inr, length, sym, ap, subst, arith}
use Rattle.dms_audfile.specs.Counting.{CountedAt, not_counted}
use Rattle.dms_site.specs.Files.{Files}
use Rattle.dms_opening.specs.declared.plan.OpeningPlan.{OpeningPlan}
use Rattle.dms_opening.specs.Openings.{HasFullTrail, IsTrailFound, OpeningGrows, OpensAt, ReopensSince, RunsWhere}
use Rattle.dms_opening.specs.Plans.{Plans}
use Rattle.dms_opening.proofs.Growths.{grows_none}
use Rattle.dms_opening.proofs.Opens.{may_refuse, since_none}
use Rattle.dms_status.specs.declared.status.Status.TheVariants.{DiskFault, Memory}
use Rattle.dms_guard.specs.Bare.{bare}
use Rattle.dms_guard.specs.Faults.{open_status}
use Rattle.dms_guard.specs.Guard.{StaysBeside}
use Rattle.dms_guard.proofs.Besides.{beside_read, beside_within, opening_within, within_guarded}
use Rattle.dms_guard.proofs.Guarding.{refused_counts}
use Rattle.dms_guard.proofs.Refused.{counts_open}
use Rattle.dms_dumping.specs.Statuses.{IsDumpRefusal}
use Rattle.dms_dumping.proofs.Fills.{fills_opening}
use Rattle.dms_opening.proofs.Reading.{since_back, grows_back}
use Rattle.dms_dumping.proofs.Behind.{full_refused, never_refused, counted_back, written_unrefused}
use Rattle.dms_dumping.proofs.preparing.open_to_dump.Goals as goal

-- ---- it was refused

pub returns-in-Err-clause-stopped : goal.returns-in-Err-clause-stopped
returns-in-Err-clause-stopped g c = λ tells. since_none g.S.Site g.met.S.Site.counts_now c.args.site c.in-Err.site c.in-Err.ensures.stays_then.moments

pub returns-in-Err-clause-grows_then : goal.returns-in-Err-clause-grows_then
returns-in-Err-clause-grows_then g c = λ tells. grows_none g.S.Site c.args.site c.in-Err.site (c.in-Err.ensures.stays_then.files tells) c.in-Err.ensures.stays_then.moments

pub returns-in-Err-clause-complete : goal.returns-in-Err-clause-complete
returns-in-Err-clause-complete g c = λ tells. never_refused c.args.dump (g.S.Site.files c.args.site) c.in-Err.refusal c.status_of_refusal.result c.status_of_refusal.ensures (c.in-Err.ensures.refused tells)

pub returns-in-Err-clause-full : goal.returns-in-Err-clause-full
returns-in-Err-clause-full g c = full_refused g.S.Site c.args.site c.in-Err.site c.in-Err.refusal c.status_of_refusal.result c.args.dump c.status_of_refusal.ensures c.in-Err.ensures.refused c.in-Err.ensures.room

pub returns-in-Err-clause-can_then : goal.returns-in-Err-clause-can_then
returns-in-Err-clause-can_then g c = λ tells. inr c.in-Err.ensures.stays_then

pub returns-in-Err-clause-beside_then : goal.returns-in-Err-clause-beside_then
returns-in-Err-clause-beside_then g c = beside_read g.S.Site c.args.site c.in-Err.site c.in-Err.ensures.stays_then

-- ---- there was no memory for its line

pub returns-in-Err-dumped_text-clause-stopped : goal.returns-in-Err-dumped_text-clause-stopped
returns-in-Err-dumped_text-clause-stopped g c = λ tells.
    subst (λ x. ReopensSince g.S.Site c.args.site x) (sym c.into_site.ensures) (since_none g.S.Site g.met.S.Site.counts_now c.args.site c.in-Ok.plan.planned.log.site c.in-Ok.ensures.stays.moments)

pub returns-in-Err-dumped_text-clause-grows_then : goal.returns-in-Err-dumped_text-clause-grows_then
returns-in-Err-dumped_text-clause-grows_then g c = λ tells.
    subst (λ x. OpeningGrows g.S.Site c.args.site x) (sym c.into_site.ensures) (grows_none g.S.Site c.args.site c.in-Ok.plan.planned.log.site (c.in-Ok.ensures.stays.files tells) c.in-Ok.ensures.stays.moments)

pub returns-in-Err-dumped_text-clause-can_then : goal.returns-in-Err-dumped_text-clause-can_then
returns-in-Err-dumped_text-clause-can_then g c = λ tells. inl (c.in-Ok.ensures.can tells)

pub returns-in-Err-dumped_text-clause-beside_then : goal.returns-in-Err-dumped_text-clause-beside_then
returns-in-Err-dumped_text-clause-beside_then g c = subst (λ x. StaysBeside g.S.Site c.args.site x) (sym c.into_site.ensures) (beside_read g.S.Site c.args.site c.in-Ok.plan.planned.log.site c.in-Ok.ensures.stays)

-- ---- it was opened

pub returns-in-Ok-open-clause-opens : goal.returns-in-Ok-open-clause-opens
returns-in-Ok-open-clause-opens g c = λ tells.
    let o = c.in-Ok-open.opened in
    let st = c.guarded.ensures.stays c.args.site c.in-Ok.ensures.stays in
    subst (λ (f : Files). OpensAt o.log.end.total o.log.first f o.point o.next o.schema.items o.counts.items) (st.files tells) (c.in-Ok-open.ensures.opens tells (c.guarded.ensures.looked tells (c.in-Ok.ensures.looked tells)))

pub returns-in-Ok-open-clause-runs : goal.returns-in-Ok-open-clause-runs
returns-in-Ok-open-clause-runs g c = λ tells.
    let st = c.guarded.ensures.stays c.args.site c.in-Ok.ensures.stays in
    subst (λ (f : Files). RunsWhere g.S.Site f (bare c.in-Ok-open.opened)) (st.files tells) (λ whole. c.in-Ok-open.ensures.runs tells (c.guarded.ensures.looked tells (c.in-Ok.ensures.looked tells)) whole)

pub returns-in-Ok-open-clause-moments : goal.returns-in-Ok-open-clause-moments
returns-in-Ok-open-clause-moments g c = λ tells.
    let st = c.guarded.ensures.stays c.args.site c.in-Ok.ensures.stays in
    since_back g.S.Site g.met.S.Site.counts_now c.args.site c.guarded.result.log.site.site c.in-Ok-open.opened.log.site.site st tells (c.in-Ok-open.ensures.moments tells (c.guarded.ensures.looked tells (c.in-Ok.ensures.looked tells)))

pub returns-in-Ok-open-clause-grows : goal.returns-in-Ok-open-clause-grows
returns-in-Ok-open-clause-grows g c = λ tells.
    let st = c.guarded.ensures.stays c.args.site c.in-Ok.ensures.stays in
    let r = c.in-Ok-open.ensures.grows tells (c.guarded.ensures.looked tells (c.in-Ok.ensures.looked tells)) in
    grows_back g.S.Site c.args.site c.guarded.result.log.site.site c.in-Ok-open.opened.log.site.site st tells (record { kept = r.kept; left = r.left; few = r.few })

pub returns-in-Ok-open-clause-same : goal.returns-in-Ok-open-clause-same
returns-in-Ok-open-clause-same g c =
    let st = c.guarded.ensures.stays c.args.site c.in-Ok.ensures.stays in
    g.met.S.Site.same_then c.args.site c.guarded.result.log.site.site c.in-Ok-open.opened.log.site.site st.same c.in-Ok-open.ensures.same.same

pub returns-in-Ok-open-clause-beside : goal.returns-in-Ok-open-clause-beside
returns-in-Ok-open-clause-beside g c =
    let st = c.guarded.ensures.stays c.args.site c.in-Ok.ensures.stays in
    let p = c.in-Ok.plan.planned in
    let k = length p.plan.counts.items in
    let o = c.in-Ok-open.opened in
    beside_within g.S.Site k c.args.site o.log.site.site c.in-Ok.ensures.ready.counts.few
    (λ tells.
    let l = c.in-Ok.ensures.looked tells in
    let same = c.in-Ok.ensures.stays.files tells in
    opening_within (g.S.Site.files c.args.site) p (subst (λ (f : Files). IsTrailFound p.log.end.total p.log.first f) same l.trail) (subst (λ (f : Files). Plans p.log.end.total p.log.first f p.plan) same l.plans) c.in-Ok.ensures.named)
    (within_guarded g.S.Site c.guarded.result.log.site.structures o.log.site.structures k c.args.site c.guarded.result.log.site.site o.log.site.site st c.in-Ok-open.ensures.same c.guarded.ensures.many.0).1

pub returns-in-Ok-open-clause-clean : goal.returns-in-Ok-open-clause-clean
returns-in-Ok-open-clause-clean g c =
    let st = c.guarded.ensures.stays c.args.site c.in-Ok.ensures.stays in (
      omega (arith, c.in-Ok.ensures.clean, ap g.S.Site.disk_faults c.guarded.ensures.site, c.guarded.ensures.many.1, c.in-Ok-open.ensures.clean.0, c.in-Ok-open.ensures.same.counted),
      c.in-Ok-open.ensures.clean.1 ∙ st.say_faults,
    )

pub returns-in-Ok-open-clause-said : goal.returns-in-Ok-open-clause-said
returns-in-Ok-open-clause-said g c =
    let st = c.guarded.ensures.stays c.args.site c.in-Ok.ensures.stays in
    c.in-Ok-open.ensures.said ∙ st.said

-- ---- it wasn't

pub returns-then-refused-gt0-clause-stopped : goal.returns-then-refused-gt0-clause-stopped
returns-then-refused-gt0-clause-stopped g c = λ tells.
    let st = c.guarded.ensures.stays c.args.site c.in-Ok.ensures.stays in
    since_back g.S.Site g.met.S.Site.counts_now c.args.site c.guarded.result.log.site.site c.in-Err-open.guarded.site st tells (c.in-Err-open.ensures.stopped tells (c.guarded.ensures.looked tells (c.in-Ok.ensures.looked tells)))

pub returns-then-refused-gt0-clause-grows_then : goal.returns-then-refused-gt0-clause-grows_then
returns-then-refused-gt0-clause-grows_then g c = λ tells.
    let st = c.guarded.ensures.stays c.args.site c.in-Ok.ensures.stays in
    let r = c.in-Err-open.ensures.grows_then tells (c.guarded.ensures.looked tells (c.in-Ok.ensures.looked tells)) in
    grows_back g.S.Site c.args.site c.guarded.result.log.site.site c.in-Err-open.guarded.site st tells (record { kept = r.kept; left = r.left; few = r.few })

pub returns-then-refused-gt0-clause-can_then : goal.returns-then-refused-gt0-clause-can_then
returns-then-refused-gt0-clause-can_then g c = λ tells. inl (c.in-Ok.ensures.can tells)

pub returns-then-refused-gt0-clause-same_then : goal.returns-then-refused-gt0-clause-same_then
returns-then-refused-gt0-clause-same_then g c =
    let st = c.guarded.ensures.stays c.args.site c.in-Ok.ensures.stays in
    g.met.S.Site.same_then c.args.site c.guarded.result.log.site.site c.in-Err-open.guarded.site st.same c.in-Err-open.ensures.same_then.same

pub returns-then-refused-gt0-clause-disk : goal.returns-then-refused-gt0-clause-disk
returns-then-refused-gt0-clause-disk g c =
    let a = g.S.Site.disk_faults c.args.site in
    let r = c.in-Err-open.guarded in
    let same : g.S.Site.disk_faults c.guarded.result.log.site.site + c.guarded.result.log.site.refused ≡ a = omega (arith, c.in-Ok.ensures.clean, ap g.S.Site.disk_faults c.guarded.ensures.site, c.guarded.ensures.many.1) in
    let later : a ≤ g.S.Site.disk_faults r.site = omega (arith, c.in-Ok.ensures.clean, ap g.S.Site.disk_faults c.guarded.ensures.site, c.in-Err-open.ensures.same_then.counted) in
    let counted = refused_counts (open_status c.in-Err-open.fault) a (g.S.Site.disk_faults r.site) r.refused later c.if-refused-gt0.true
    (subst (λ n. CountedAt (open_status c.in-Err-open.fault ≡ DiskFault) n (g.S.Site.disk_faults r.site + r.refused)) same (counts_open c.in-Err-open.fault _ _ c.in-Err-open.ensures.disk)) in
    not_counted _ a (g.S.Site.disk_faults r.site) (λ is. absurd cc) counted.1

pub returns-then-refused-gt0-clause-beside_then : goal.returns-then-refused-gt0-clause-beside_then
returns-then-refused-gt0-clause-beside_then g c =
    let st = c.guarded.ensures.stays c.args.site c.in-Ok.ensures.stays in
    let p = c.in-Ok.plan.planned in
    let k = length p.plan.counts.items in
    let r = c.in-Err-open.guarded in
    beside_within g.S.Site k c.args.site r.site c.in-Ok.ensures.ready.counts.few
    (λ tells.
    let l = c.in-Ok.ensures.looked tells in
    let same = c.in-Ok.ensures.stays.files tells in
    opening_within (g.S.Site.files c.args.site) p (subst (λ (f : Files). IsTrailFound p.log.end.total p.log.first f) same l.trail) (subst (λ (f : Files). Plans p.log.end.total p.log.first f p.plan) same l.plans) c.in-Ok.ensures.named)
    (within_guarded g.S.Site c.guarded.result.log.site.structures r.structures k c.args.site c.guarded.result.log.site.site r.site st c.in-Err-open.ensures.same_then c.guarded.ensures.many.0).1

pub returns-else-refused-gt0-clause-stopped : goal.returns-else-refused-gt0-clause-stopped
returns-else-refused-gt0-clause-stopped g c = λ tells.
    let st = c.guarded.ensures.stays c.args.site c.in-Ok.ensures.stays in
    since_back g.S.Site g.met.S.Site.counts_now c.args.site c.guarded.result.log.site.site c.in-Err-open.guarded.site st tells (c.in-Err-open.ensures.stopped tells (c.guarded.ensures.looked tells (c.in-Ok.ensures.looked tells)))

pub returns-else-refused-gt0-clause-grows_then : goal.returns-else-refused-gt0-clause-grows_then
returns-else-refused-gt0-clause-grows_then g c = λ tells.
    let st = c.guarded.ensures.stays c.args.site c.in-Ok.ensures.stays in
    let r = c.in-Err-open.ensures.grows_then tells (c.guarded.ensures.looked tells (c.in-Ok.ensures.looked tells)) in
    grows_back g.S.Site c.args.site c.guarded.result.log.site.site c.in-Err-open.guarded.site st tells (record { kept = r.kept; left = r.left; few = r.few })

pub returns-else-refused-gt0-clause-can_then : goal.returns-else-refused-gt0-clause-can_then
returns-else-refused-gt0-clause-can_then g c = λ tells. inl (c.in-Ok.ensures.can tells)

pub returns-else-refused-gt0-clause-full : goal.returns-else-refused-gt0-clause-full
returns-else-refused-gt0-clause-full g c =
    let st = c.guarded.ensures.stays c.args.site c.in-Ok.ensures.stays in
    fills_opening g.S.Site c.args.site c.in-Err-open.guarded.site c.in-Err-open.fault c.status_of_open.result c.status_of_open.ensures
    (λ tells. may_refuse (g.S.Site.files c.args.site) c.in-Err-open.fault (c.in-Err-open.ensures.only tells (c.guarded.ensures.looked tells (c.in-Ok.ensures.looked tells))))
    (λ tells is. subst (λ (f : Files). HasFullTrail f (g.S.Site.files c.in-Err-open.guarded.site)) (st.files tells) (c.in-Err-open.ensures.full tells (c.guarded.ensures.looked tells (c.in-Ok.ensures.looked tells)) is))

pub returns-else-refused-gt0-clause-same_then : goal.returns-else-refused-gt0-clause-same_then
returns-else-refused-gt0-clause-same_then g c =
    let st = c.guarded.ensures.stays c.args.site c.in-Ok.ensures.stays in
    g.met.S.Site.same_then c.args.site c.guarded.result.log.site.site c.in-Err-open.guarded.site st.same c.in-Err-open.ensures.same_then.same

pub returns-else-refused-gt0-clause-disk : goal.returns-else-refused-gt0-clause-disk
returns-else-refused-gt0-clause-disk g c =
    let a = g.S.Site.disk_faults c.args.site in
    let r = c.in-Err-open.guarded in
    let same : g.S.Site.disk_faults c.guarded.result.log.site.site + c.guarded.result.log.site.refused ≡ a = omega (arith, c.in-Ok.ensures.clean, ap g.S.Site.disk_faults c.guarded.ensures.site, c.guarded.ensures.many.1) in
    let none : g.S.Site.disk_faults r.site + r.refused ≡ g.S.Site.disk_faults r.site = omega (arith, c.if-refused-gt0.false) in
    counted_back _ _ _ _ _ c.status_of_open.ensures same (subst (λ n. CountedAt (open_status c.in-Err-open.fault ≡ DiskFault) (g.S.Site.disk_faults c.guarded.result.log.site.site + c.guarded.result.log.site.refused) n) none (counts_open c.in-Err-open.fault _ _ c.in-Err-open.ensures.disk))

pub returns-else-refused-gt0-clause-beside_then : goal.returns-else-refused-gt0-clause-beside_then
returns-else-refused-gt0-clause-beside_then g c =
    let st = c.guarded.ensures.stays c.args.site c.in-Ok.ensures.stays in
    let p = c.in-Ok.plan.planned in
    let k = length p.plan.counts.items in
    let r = c.in-Err-open.guarded in
    beside_within g.S.Site k c.args.site r.site c.in-Ok.ensures.ready.counts.few
    (λ tells.
    let l = c.in-Ok.ensures.looked tells in
    let same = c.in-Ok.ensures.stays.files tells in
    opening_within (g.S.Site.files c.args.site) p (subst (λ (f : Files). IsTrailFound p.log.end.total p.log.first f) same l.trail) (subst (λ (f : Files). Plans p.log.end.total p.log.first f p.plan) same l.plans) c.in-Ok.ensures.named)
    (within_guarded g.S.Site c.guarded.result.log.site.structures r.structures k c.args.site c.guarded.result.log.site.site r.site st c.in-Err-open.ensures.same_then c.guarded.ensures.many.0).1

pub returns-then-refused-gt0-clause-said_then : goal.returns-then-refused-gt0-clause-said_then
returns-then-refused-gt0-clause-said_then g c =
    let st = c.guarded.ensures.stays c.args.site c.in-Ok.ensures.stays in
    c.in-Err-open.ensures.said_then ∙ st.said

pub returns-then-refused-gt0-clause-say_faults : goal.returns-then-refused-gt0-clause-say_faults
returns-then-refused-gt0-clause-say_faults g c =
    let st = c.guarded.ensures.stays c.args.site c.in-Ok.ensures.stays in
    c.in-Err-open.ensures.say_faults ∙ st.say_faults

pub returns-else-refused-gt0-clause-said_then : goal.returns-else-refused-gt0-clause-said_then
returns-else-refused-gt0-clause-said_then g c =
    let st = c.guarded.ensures.stays c.args.site c.in-Ok.ensures.stays in
    c.in-Err-open.ensures.said_then ∙ st.said

pub returns-else-refused-gt0-clause-say_faults : goal.returns-else-refused-gt0-clause-say_faults
returns-else-refused-gt0-clause-say_faults g c =
    let st = c.guarded.ensures.stays c.args.site c.in-Ok.ensures.stays in
    c.in-Err-open.ensures.say_faults ∙ st.say_faults

pub returns-else-refused-gt0-clause-refused : goal.returns-else-refused-gt0-clause-refused
returns-else-refused-gt0-clause-refused g c = λ refusal tells.
    absurd (written_unrefused c.in-Err-open.fault (c.in-Err-open.ensures.only tells (c.guarded.ensures.looked tells (c.in-Ok.ensures.looked tells))) (subst IsDumpRefusal c.status_of_open.ensures refusal))

pub returns-else-refused-gt0-clause-complete : goal.returns-else-refused-gt0-clause-complete
returns-else-refused-gt0-clause-complete g c = λ tells total first openable shut refusal.
    written_unrefused c.in-Err-open.fault (c.in-Err-open.ensures.only tells (c.guarded.ensures.looked tells (c.in-Ok.ensures.looked tells))) (subst IsDumpRefusal c.status_of_open.ensures refusal)
