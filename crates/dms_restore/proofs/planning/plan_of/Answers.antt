use Rattle.dms_restore.proofs.Results.{one_if_err}
use Rattle.dms_restore.proofs.SpotParts.{lent_fault}
use Rattle.dms_restore.proofs.WholeSpots.{memory_alone}
use Rattle.dms_restore.proofs.planning.plan_of.Goals as goal

pub returns-in-Some-clause-memory : goal.returns-in-Some-clause-memory
returns-in-Some-clause-memory c =
    let live = c.args.history.now.live.items in
    let removed = c.args.history.now.removed.items in
    one_if_err c.plan_at.result (lent_fault c.plan_at.result live removed _ _ c.deref.ensures.value c.deref-in-Some.ensures.value c.plan_at.ensures.only)
    (λ e only files entries t. memory_alone files live removed e t.live_whole t.removed_whole only)
