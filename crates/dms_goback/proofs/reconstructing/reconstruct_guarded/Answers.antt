use Rattle.std.proofs.Common.{ℕ, ◌≡◌, ◌≤◌, ◌+◌, ◌∙◌, inl, inr, IsTrue, [], sym, ap, subst, arith}
use Rattle.dms_audfile.specs.Counting.{CountedAt}
use Rattle.dms_audfile.specs.declared.fault.AudFault.TheVariants as aud
use Rattle.dms_opening.specs.declared.choosing.OpenFault.TheVariants.{Audit}
use Rattle.dms_opening.proofs.OneTrail.{unchanged}
use Rattle.dms_restore.specs.Logging.{telling_of}
use Rattle.dms_recovery.specs.Refusing.{RecoveryGrows}
use Rattle.dms_recovery.specs.Rows.{named_blocks}
use Rattle.dms_recovery.specs.declared.wanted.Wanted.TheVariants.{Reconstruct}
use Rattle.dms_recovery.proofs.Seen.{grows_nothing}
use Rattle.dms_statelaws.specs.SiteLaws.{MendsEnd, MendsSince}
use Rattle.dms_statelaws.specs.Stopping.{MendsTo}
use Rattle.dms_status.specs.declared.status.Status.TheVariants.{DiskFault}
use Rattle.dms_dumping.specs.Filling.{FillsTrail}
use Rattle.dms_guard.specs.Bare.{around}
use Rattle.dms_goback.specs.Restores.{StaysFor}
use Rattle.dms_goback.proofs.Beside.{full_written, looked_for, stays_for}
use Rattle.dms_goback.proofs.Mending.{mends_end, mends_since}
use Rattle.dms_goback.proofs.reconstructing.reconstruct_guarded.Goals as goal

-- ---- it was refused

pub returns-in-Err-clause-stopped : goal.returns-in-Err-clause-stopped
returns-in-Err-clause-stopped g c = λ tells u total first n desc from. unchanged (g.S.Site.clock c.args.site) (g.S.Site.clock c.in-Err.refused.1) (MendsTo (telling_of total first) (g.S.Site.files c.args.site) u (named_blocks desc.structures c.args.rows.now) n) (g.met.S.Site.counts_now c.args.site) c.in-Err.ensures.stays_then.moments

pub returns-in-Err-clause-trail_then : goal.returns-in-Err-clause-trail_then
returns-in-Err-clause-trail_then g c = λ tells. grows_nothing g.S.Site c.args.site c.in-Err.refused.1 (c.in-Err.ensures.stays_then.files tells) c.in-Err.ensures.stays_then.moments

pub returns-in-Err-clause-beside_then : goal.returns-in-Err-clause-beside_then
returns-in-Err-clause-beside_then g c = looked_for g.S.Site (Reconstruct c.args.dump) c.args.site c.in-Err.refused.1 c.in-Err.ensures.stays_then

pub returns-in-Err-clause-may_then : goal.returns-in-Err-clause-may_then
returns-in-Err-clause-may_then g c = λ tells. inr (record { files = c.in-Err.ensures.stays_then.files tells; moments = c.in-Err.ensures.stays_then.moments })

pub returns-in-Err-clause-same_then : goal.returns-in-Err-clause-same_then
returns-in-Err-clause-same_then g c = c.in-Err.ensures.stays_then.same

pub returns-in-Err-clause-said_then : goal.returns-in-Err-clause-said_then
returns-in-Err-clause-said_then g c = c.in-Err.ensures.stays_then.said

pub returns-in-Err-clause-say_faults : goal.returns-in-Err-clause-say_faults
returns-in-Err-clause-say_faults g c = c.in-Err.ensures.stays_then.say_faults

-- ---- it was done

pub returns-in-Ok-reconstruct-clause-moments : goal.returns-in-Ok-reconstruct-clause-moments
returns-in-Ok-reconstruct-clause-moments g c = subst (λ x. IsTrue g.S.Site.tells → MendsSince g.S.Site c.args.site x c.args.dump c.args.rows.now) (sym c.bared.ensures.site)
    (mends_since g.S.Site c.args.site c.in-Ok-reconstruct.recovered.site.site c.args.dump c.args.rows.now (c.in-Ok-reconstruct.ensures.moments c.args.rows.now (around c.in-Ok.looked.planned.log.site c.args.site) c.in-Ok.ensures.looked))

pub returns-in-Ok-reconstruct-clause-ends : goal.returns-in-Ok-reconstruct-clause-ends
returns-in-Ok-reconstruct-clause-ends g c = subst (λ x. IsTrue g.S.Site.tells → MendsEnd g.S.Site c.args.site x c.args.dump c.args.rows.now) (sym c.bared.ensures.site)
    (mends_end g.S.Site c.args.site c.in-Ok-reconstruct.recovered.site.site c.args.dump c.args.rows.now (c.in-Ok-reconstruct.ensures.ends c.args.rows.now (around c.in-Ok.looked.planned.log.site c.args.site) c.in-Ok.ensures.looked))

pub returns-in-Ok-reconstruct-clause-point : goal.returns-in-Ok-reconstruct-clause-point
returns-in-Ok-reconstruct-clause-point g c = λ tells total first n trail last. c.bared.ensures.point ∙ c.in-Ok-reconstruct.ensures.point c.args.rows.now (around c.in-Ok.looked.planned.log.site c.args.site) c.in-Ok.ensures.looked tells total first n trail last

pub returns-in-Ok-reconstruct-clause-trail : goal.returns-in-Ok-reconstruct-clause-trail
returns-in-Ok-reconstruct-clause-trail g c = λ tells.
    let r = c.in-Ok-reconstruct.ensures.grows c.args.rows.now (around c.in-Ok.looked.planned.log.site c.args.site) c.in-Ok.ensures.looked tells in
    subst (λ x. RecoveryGrows g.S.Site c.args.site x) (sym c.bared.ensures.site) (record { kept = r.kept; left = r.left; few = r.few })

pub returns-in-Ok-reconstruct-clause-beside : goal.returns-in-Ok-reconstruct-clause-beside
returns-in-Ok-reconstruct-clause-beside g c =
    let l = c.in-Ok.ensures in
    let p = c.in-Ok.looked.planned.log.site in
    let r = c.in-Ok-reconstruct.recovered.site in
    subst (λ x. StaysFor g.S.Site (Reconstruct c.args.dump) c.args.site x) (sym c.bared.ensures.site) (stays_for g.S.Site (Reconstruct c.args.dump) p.structures r.structures c.args.site p.site r.site l.few l.within l.stays c.in-Ok-reconstruct.ensures.same)

pub returns-in-Ok-reconstruct-clause-same : goal.returns-in-Ok-reconstruct-clause-same
returns-in-Ok-reconstruct-clause-same g c =
    subst (λ x. g.S.Site.same_site c.args.site x) (sym c.bared.ensures.site)
    (g.met.S.Site.same_then c.args.site c.in-Ok.looked.planned.log.site.site c.in-Ok-reconstruct.recovered.site.site c.in-Ok.ensures.stays.same c.in-Ok-reconstruct.ensures.same.same)

pub returns-in-Ok-reconstruct-clause-said : goal.returns-in-Ok-reconstruct-clause-said
returns-in-Ok-reconstruct-clause-said g c = ap g.S.Site.said c.bared.ensures.site ∙ c.in-Ok-reconstruct.ensures.said ∙ c.in-Ok.ensures.stays.said

pub returns-in-Ok-reconstruct-clause-clean : goal.returns-in-Ok-reconstruct-clause-clean
returns-in-Ok-reconstruct-clause-clean g c =
    let r = c.in-Ok-reconstruct.ensures in (
      omega (arith, ap g.S.Site.disk_faults c.bared.ensures.site, c.in-Ok.ensures.clean.0, c.in-Ok.ensures.clean.1, r.clean.0, r.same.counted),
      ap g.S.Site.say_faults c.bared.ensures.site ∙ r.clean.1 ∙ c.in-Ok.ensures.stays.say_faults,
    )

-- ---- it failed

pub returns-in-Err-reconstruct-clause-stopped : goal.returns-in-Err-reconstruct-clause-stopped
returns-in-Err-reconstruct-clause-stopped g c = subst (λ x. IsTrue g.S.Site.tells → MendsSince g.S.Site c.args.site x c.args.dump c.args.rows.now) (sym c.unguarded.ensures.site)
    (mends_since g.S.Site c.args.site c.in-Err-reconstruct.guarded.site c.args.dump c.args.rows.now (c.in-Err-reconstruct.ensures.stopped c.args.rows.now (around c.in-Ok.looked.planned.log.site c.args.site) c.in-Ok.ensures.looked))

pub returns-in-Err-reconstruct-clause-trail_then : goal.returns-in-Err-reconstruct-clause-trail_then
returns-in-Err-reconstruct-clause-trail_then g c = λ tells.
    let r = c.in-Err-reconstruct.ensures.grows_then c.args.rows.now (around c.in-Ok.looked.planned.log.site c.args.site) c.in-Ok.ensures.looked tells in
    subst (λ x. RecoveryGrows g.S.Site c.args.site x) (sym c.unguarded.ensures.site) (record { kept = r.kept; left = r.left; few = r.few })

pub returns-in-Err-reconstruct-clause-beside_then : goal.returns-in-Err-reconstruct-clause-beside_then
returns-in-Err-reconstruct-clause-beside_then g c =
    let l = c.in-Ok.ensures in
    let p = c.in-Ok.looked.planned.log.site in
    let r = c.in-Err-reconstruct.guarded in
    subst (λ x. StaysFor g.S.Site (Reconstruct c.args.dump) c.args.site x) (sym c.unguarded.ensures.site) (stays_for g.S.Site (Reconstruct c.args.dump) p.structures r.structures c.args.site p.site r.site l.few l.within l.stays c.in-Err-reconstruct.ensures.same_then)

pub returns-in-Err-reconstruct-clause-refused : goal.returns-in-Err-reconstruct-clause-refused
returns-in-Err-reconstruct-clause-refused g c = λ tells refusal. absurd (c.unguarded.ensures.none (c.in-Err-reconstruct.ensures.only c.args.rows.now (around c.in-Ok.looked.planned.log.site c.args.site) c.in-Ok.ensures.looked tells) refusal)

pub returns-in-Err-reconstruct-clause-complete : goal.returns-in-Err-reconstruct-clause-complete
returns-in-Err-reconstruct-clause-complete g c = λ tells total first can refusal. c.unguarded.ensures.none (c.in-Err-reconstruct.ensures.only c.args.rows.now (around c.in-Ok.looked.planned.log.site c.args.site) c.in-Ok.ensures.looked tells) refusal

pub returns-in-Err-reconstruct-clause-may_then : goal.returns-in-Err-reconstruct-clause-may_then
returns-in-Err-reconstruct-clause-may_then g c = λ tells. inl (c.in-Ok.ensures.may tells)

pub returns-in-Err-reconstruct-clause-full : goal.returns-in-Err-reconstruct-clause-full
returns-in-Err-reconstruct-clause-full g c =
    subst (λ x. FillsTrail g.S.Site c.args.site x c.unguarded.result.0) (sym c.unguarded.ensures.site)
    (full_written g.S.Site c.args.site c.in-Err-reconstruct.guarded.site c.in-Err-reconstruct.fault c.unguarded.result.0 c.unguarded.ensures.full
    (c.in-Err-reconstruct.ensures.only c.args.rows.now (around c.in-Ok.looked.planned.log.site c.args.site) c.in-Ok.ensures.looked) (c.in-Err-reconstruct.ensures.full c.args.rows.now (around c.in-Ok.looked.planned.log.site c.args.site) c.in-Ok.ensures.looked))

pub returns-in-Err-reconstruct-clause-statuses : goal.returns-in-Err-reconstruct-clause-statuses
returns-in-Err-reconstruct-clause-statuses g c = inl c.unguarded.ensures.statuses

pub returns-in-Err-reconstruct-clause-same_then : goal.returns-in-Err-reconstruct-clause-same_then
returns-in-Err-reconstruct-clause-same_then g c =
    subst (λ x. g.S.Site.same_site c.args.site x) (sym c.unguarded.ensures.site)
    (g.met.S.Site.same_then c.args.site c.in-Ok.looked.planned.log.site.site c.in-Err-reconstruct.guarded.site c.in-Ok.ensures.stays.same c.in-Err-reconstruct.ensures.same_then.same)

pub returns-in-Err-reconstruct-clause-said_then : goal.returns-in-Err-reconstruct-clause-said_then
returns-in-Err-reconstruct-clause-said_then g c = ap g.S.Site.said c.unguarded.ensures.site ∙ c.in-Err-reconstruct.ensures.said_then ∙ c.in-Ok.ensures.stays.said

pub returns-in-Err-reconstruct-clause-say_faults : goal.returns-in-Err-reconstruct-clause-say_faults
returns-in-Err-reconstruct-clause-say_faults g c = ap g.S.Site.say_faults c.unguarded.ensures.site ∙ c.in-Err-reconstruct.ensures.say_faults ∙ c.in-Ok.ensures.stays.say_faults

pub returns-in-Err-reconstruct-clause-disk : goal.returns-in-Err-reconstruct-clause-disk
returns-in-Err-reconstruct-clause-disk g c =
    let a = g.S.Site.disk_faults c.args.site in
    let r = c.in-Err-reconstruct.guarded in
    let same : g.S.Site.disk_faults c.in-Ok.looked.planned.log.site.site + c.in-Ok.looked.planned.log.site.refused ≡ a = omega (arith, c.in-Ok.ensures.clean.0, c.in-Ok.ensures.clean.1) in
    let later : a ≤ g.S.Site.disk_faults r.site = omega (arith, c.in-Ok.ensures.clean.0, c.in-Err-reconstruct.ensures.same_then.counted) in
    subst (λ x. CountedAt (c.unguarded.result.0 ≡ DiskFault) a (g.S.Site.disk_faults x)) (sym c.unguarded.ensures.site)
    (c.unguarded.ensures.disk a later (subst (λ n. CountedAt (c.in-Err-reconstruct.fault ≡ Audit aud.Disk) n (g.S.Site.disk_faults r.site + r.refused)) same c.in-Err-reconstruct.ensures.disk))
