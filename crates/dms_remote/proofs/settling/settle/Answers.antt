use Rattle.std.proofs.Common.{subst, sym}
use Rattle.dms_site.specs.Files.{Files}
use Rattle.dms_audfile.specs.TrailEntries.{entries_in}
use Rattle.dms_audfile.specs.declared.audit_end.AuditEnd.{AuditEnd}
use Rattle.dms_follow.specs.Laws.{settler}
use Rattle.dms_remote.specs.Settling.{no_point, IsSettled}
use Rattle.dms_remote.proofs.Settles.{settling_moments, settling_none, settling_done, settling_on}
use Rattle.dms_remote.proofs.settling.settle.Goals as goal

pub returns-in-Err-clause-stopped : goal.returns-in-Err-clause-stopped
returns-in-Err-clause-stopped g c head blocks tells hold only = settling_none c.args.log.end c.args.history.now head blocks (g.S.Site.files c.args.log.site) hold _ only

pub returns-in-Ok-sync-clause-moments : goal.returns-in-Ok-sync-clause-moments
returns-in-Ok-sync-clause-moments g c head blocks tells hold only =
    let old = g.S.Site.files c.args.log.site in
    let plan = c.in-Ok.ensures.plan old (entries_in blocks) hold.traced hold.may in
    settling_on c.args.log.end.total c.args.log.end.tag head blocks
    (settling_moments c.args.log.end c.args.history.now head blocks old hold _ _ only (c.in-Ok-restore.ensures.rewrites (settler (entries_in blocks) no_point) tells plan))
    c.sync.ensures.moments

pub returns-in-Ok-restore-clause-stopped : goal.returns-in-Ok-restore-clause-stopped
returns-in-Ok-restore-clause-stopped g c head blocks tells hold only =
    let old = g.S.Site.files c.args.log.site in
    let plan = c.in-Ok.ensures.plan old (entries_in blocks) hold.traced hold.may in
    settling_on c.args.log.end.total c.args.log.end.tag head blocks
    (settling_moments c.args.log.end c.args.history.now head blocks old hold _ _ only (c.in-Ok-restore.ensures.rewrites (settler (entries_in blocks) no_point) tells plan))
    c.sync.ensures.moments

pub returns-clause-stopped : goal.returns-clause-stopped
returns-clause-stopped g c head blocks tells hold only =
    let old = g.S.Site.files c.args.log.site in
    let plan = c.in-Ok.ensures.plan old (entries_in blocks) hold.traced hold.may in
    settling_moments c.args.log.end c.args.history.now head blocks old hold _ _ only (c.in-Err-restore.ensures.rewrites_then (settler (entries_in blocks) no_point) tells plan)

pub returns-in-Ok-sync-clause-settled : goal.returns-in-Ok-sync-clause-settled
returns-in-Ok-sync-clause-settled g c head blocks tells hold =
    let old = g.S.Site.files c.args.log.site in
    let plan = c.in-Ok.ensures.plan old (entries_in blocks) hold.traced hold.may in
    let done = settling_done c.args.log.end c.args.history.now head blocks old hold _ (c.in-Ok-restore.ensures.over (settler (entries_in blocks) no_point) tells plan) in
    subst (λ (fs : Files). IsSettled c.in-Ok-restore.restored.log.end head blocks fs) (sym (c.sync.ensures.files tells))
    (subst (λ (end : AuditEnd). IsSettled end head blocks (g.S.Site.files c.in-Ok-restore.restored.log.site)) (sym c.in-Ok-restore.ensures.kind.0) done)
