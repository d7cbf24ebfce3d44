use Rattle.std.proofs.Common.{[], ◌∙◌}
use Rattle.dms_guard.proofs.Refused.{counts_open}
use Rattle.dms_recovery.proofs.Answered.{may_be_done, nothing_refuses}
use Rattle.dms_goback.proofs.RestoreStatuses.{counted_status, of_restoring}
use Rattle.dms_goback.proofs.Restored.{full_restore, refused_restore, complete_restore}
use Rattle.dms_goback.proofs.looking.look_guarded.Goals as goal

pub returns-in-Ok-clause-looked : goal.returns-in-Ok-clause-looked
returns-in-Ok-clause-looked g c =
    let l = c.in-Ok.ensures in
    c.guarded.ensures.looked c.args.wanted [] c.args.site
    (record { starts = l.starts; trail = l.trail; plans = l.plans; stays = record { files = l.files; moments = l.moments; said = l.said; say_faults = l.say_faults; same = l.same }; clean = l.clean })

pub returns-in-Ok-clause-stays : goal.returns-in-Ok-clause-stays
returns-in-Ok-clause-stays g c =
    let l = c.in-Ok.ensures in
    c.guarded.ensures.stays c.args.site (record { files = l.files; moments = l.moments; said = l.said; say_faults = l.say_faults; same = l.same })

pub returns-in-Ok-clause-clean : goal.returns-in-Ok-clause-clean
returns-in-Ok-clause-clean g c = (c.guarded.ensures.clean ∙ c.in-Ok.ensures.clean, c.guarded.ensures.fresh)

pub returns-in-Ok-clause-within : goal.returns-in-Ok-clause-within
returns-in-Ok-clause-within g c = λ tells s within.
    let p = c.in-Ok.planned in
    let l = c.in-Ok.ensures in
    c.guarded.ensures.within s (within p.log.end.total p.log.first [] p.before p.own (l.trail tells) (l.plans tells) l.named)

pub returns-in-Ok-clause-may : goal.returns-in-Ok-clause-may
returns-in-Ok-clause-may g c = λ tells.
    let p = c.in-Ok.planned in
    let l = c.in-Ok.ensures in
    may_be_done p.log.end.total p.log.first (g.S.Site.files c.args.site) c.args.wanted [] p.before p.own (l.trail tells) (l.plans tells)

pub returns-in-Err-clause-refused : goal.returns-in-Err-clause-refused
returns-in-Err-clause-refused g c =
    refused_restore g.S.Site c.args.wanted c.args.site c.in-Err.site c.in-Err.fault c.status_of_open.result c.status_of_open.ensures c.in-Err.ensures.refused (λ tells none. c.in-Err.ensures.files_then tells) (λ tells none. c.in-Err.ensures.moments_then)

pub returns-in-Err-clause-complete : goal.returns-in-Err-clause-complete
returns-in-Err-clause-complete g c =
    complete_restore g.S.Site c.args.wanted c.args.site c.in-Err.site c.in-Err.fault c.status_of_open.result c.status_of_open.ensures
    (λ tells total first can. nothing_refuses total first (g.S.Site.files c.args.site) c.args.wanted can c.in-Err.fault (c.in-Err.ensures.refused tells))

pub returns-in-Err-clause-full : goal.returns-in-Err-clause-full
returns-in-Err-clause-full g c =
    full_restore g.S.Site c.args.wanted c.args.site c.in-Err.site c.in-Err.fault c.status_of_open.result c.status_of_open.ensures c.in-Err.ensures.refused (λ tells full. absurd (c.in-Err.ensures.room tells full))

pub returns-in-Err-clause-statuses : goal.returns-in-Err-clause-statuses
returns-in-Err-clause-statuses g c = of_restoring c.status_of_open.result c.in-Err.fault c.status_of_open.ensures

pub returns-in-Err-clause-stays_then : goal.returns-in-Err-clause-stays_then
returns-in-Err-clause-stays_then g c =
    let l = c.in-Err.ensures in
    record { files = l.files_then; moments = l.moments_then; said = l.said_then; say_faults = l.say_faults_then; same = l.same_then }

pub returns-in-Err-clause-disk : goal.returns-in-Err-clause-disk
returns-in-Err-clause-disk g c = counted_status _ _ _ _ c.status_of_open.ensures (counts_open c.in-Err.fault _ _ c.in-Err.ensures.disk)
