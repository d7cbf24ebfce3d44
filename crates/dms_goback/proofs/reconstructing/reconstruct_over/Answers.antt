use Rattle.std.proofs.Common.{inr}
use Rattle.dms_goback.proofs.Mending.{reconstruct_done, reconstruct_stopped, unread_rows, unsaid_rows}
use Rattle.dms_goback.proofs.RestoreStatuses.{counted_done, counted_said, restore_unread}
use Rattle.dms_goback.proofs.reconstructing.reconstruct_over.Goals as goal

pub returns-in-Err-clause-does : goal.returns-in-Err-clause-does
returns-in-Err-clause-does g c =
    let e = c.in-Err.ensures in
    reconstruct_stopped g.S.Site c.args.dump c.args.rows.now c.args.site c.in-Err.site c.in-Err.status e.statuses e.refused e.complete e.may_then e.full e.trail_then e.beside_then e.said_then e.stopped

pub returns-in-Err-clause-say : goal.returns-in-Err-clause-say
returns-in-Err-clause-say g c = unsaid_rows c.in-Err.status _ _ c.in-Err.ensures.statuses c.in-Err.ensures.say_faults

pub returns-in-Err-clause-taken : goal.returns-in-Err-clause-taken
returns-in-Err-clause-taken g c = unread_rows c.in-Err.status c.in-Err.ensures.statuses

pub returns-in-Ok-clause-taken : goal.returns-in-Ok-clause-taken
returns-in-Ok-clause-taken g c = restore_unread c.say_restored.result.status (inr c.say_restored.ensures.statuses)

pub returns-in-Ok-clause-does : goal.returns-in-Ok-clause-does
returns-in-Ok-clause-does g c =
    let e = c.in-Ok.ensures in
    let s = c.say_restored.ensures in
    reconstruct_done g.S.Site c.args.dump c.args.rows.now c.args.site c.in-Ok.recovered.site c.say_restored.result.site c.say_restored.result.status c.in-Ok.recovered.point s.statuses e.may e.trail e.beside e.said e.moments e.ends e.point s.says s.files s.moments

pub returns-in-Ok-clause-disk : goal.returns-in-Ok-clause-disk
returns-in-Ok-clause-disk g c = counted_done c.say_restored.result.status _ _ _ c.say_restored.ensures.statuses c.in-Ok.ensures.clean.0 c.say_restored.ensures.disk

pub returns-in-Ok-clause-say : goal.returns-in-Ok-clause-say
returns-in-Ok-clause-say g c = counted_said c.say_restored.result.status _ _ _ c.in-Ok.ensures.clean.1 c.say_restored.ensures.say

pub returns-in-Ok-clause-same : goal.returns-in-Ok-clause-same
returns-in-Ok-clause-same g c = g.met.S.Site.same_then c.args.site c.in-Ok.recovered.site c.say_restored.result.site c.in-Ok.ensures.same c.say_restored.ensures.same
