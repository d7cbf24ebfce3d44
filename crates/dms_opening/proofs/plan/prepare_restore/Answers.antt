use Rattle.dms_opening.proofs.Faults.{plain_audit}
use Rattle.dms_opening.proofs.plan.prepare_restore.Goals as goal

pub returns-in-Ok-plan_pending-clause-plan : goal.returns-in-Ok-plan_pending-clause-plan
returns-in-Ok-plan_pending-clause-plan g c tells p t files u has =
    c.in-Ok-plan_pending.ensures.plan tells p (c.in-Ok.ensures.traces (g.S.Site.files c.args.site.now) p t) files (c.in-Ok.ensures.traces files p u) has

pub returns-in-Ok-plan_pending-clause-counts : goal.returns-in-Ok-plan_pending-clause-counts
returns-in-Ok-plan_pending-clause-counts g c tells p t = c.in-Ok-plan_pending.ensures.counts tells p (c.in-Ok.ensures.traces (g.S.Site.files c.args.site.now) p t)

pub returns-in-Err-plan_pending-clause-only : goal.returns-in-Err-plan_pending-clause-only
returns-in-Err-plan_pending-clause-only g c tells p t = plain_audit c.in-Err-plan_pending.fault (c.in-Err-plan_pending.ensures.only tells p (c.in-Ok.ensures.traces (g.S.Site.files c.args.site.now) p t))
