use Rattle.std.proofs.Common.{ℕ, List, inr, sym, subst}
use Rattle.dms_restore.specs.Counts.{AllAtMost}
use Rattle.dms_restore.specs.Planned.{AreCountsAt}
use Rattle.dms_opening.proofs.preparing.plan_pending.Goals as goal

pub pending_table-requires-clause-small : goal.pending_table-requires-clause-small
pending_table-requires-clause-small g c = subst AllAtMost (sym c.deref.ensures.value) c.in-Ok.ensures.small

pub returns-in-Err-clause-only : goal.returns-in-Err-clause-only
returns-in-Err-clause-only g c tells p t = c.in-Err.ensures.scanned tells p t

pub returns-in-Ok-pending_table-clause-plan : goal.returns-in-Ok-pending_table-clause-plan
returns-in-Ok-pending_table-clause-plan g c tells p t files u has =
    c.in-Ok-pending_table.ensures.plan files p u (subst (λ (l : List ℕ). AreCountsAt l p) (sym c.deref.ensures.value) (c.in-Ok.ensures.counts tells p t)) has

pub returns-in-Ok-pending_table-clause-counts : goal.returns-in-Ok-pending_table-clause-counts
returns-in-Ok-pending_table-clause-counts g c tells p t = c.in-Ok.ensures.counts tells p t

pub returns-in-Err-pending_table-clause-only : goal.returns-in-Err-pending_table-clause-only
returns-in-Err-pending_table-clause-only g c tells p t = inr (c.in-Err-pending_table.ensures.memory (g.S.Site.files c.args.site.now) p t)
