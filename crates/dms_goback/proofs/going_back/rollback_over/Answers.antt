use Rattle.std.proofs.Common.{◌≡◌, ◌∙◌, inl, inr, refl}
use Rattle.dms_moments.specs.MomentLaws.{steps_weaken}
use Rattle.dms_status.specs.declared.status.Status.TheVariants.{Memory}
use Rattle.dms_goback.specs.Restores.{rolled_text}
use Rattle.dms_recovery.specs.declared.wanted.Wanted.TheVariants.{Rollback}
use Rattle.dms_goback.proofs.Backs.{trail_none, beside_none, rolls_none, undone_none, rollback_stopped, rollback_done}
use Rattle.dms_goback.proofs.RestoreStatuses.{made_of, restored_room, counted_done, counted_said, counted_stopped, restore_unread, said_line}
use Rattle.dms_goback.proofs.going_back.rollback_over.Goals as goal

pub returns-in-Err-clause-does : goal.returns-in-Err-clause-does
returns-in-Err-clause-does g c =
    rollback_stopped g.S.Site c.args.point c.args.site c.args.site Memory tt (λ tells refusal. absurd refusal) (λ tells total first can refusal. refusal) (λ tells. inr (undone_none g.S.Site c.args.site)) (restored_room g.S.Site c.args.site c.args.site Memory tt)
    (λ tells. trail_none g.S.Site c.args.site) (beside_none g.S.Site c.args.site (Rollback c.args.point)) refl (λ tells. rolls_none g.S.Site c.args.site c.args.point)

pub returns-clause-does : goal.returns-clause-does
returns-clause-does g c =
    let e = c.in-Err-roll_guarded.ensures in
    rollback_stopped g.S.Site c.args.point c.args.site c.in-Err-roll_guarded.site c.in-Err-roll_guarded.status e.statuses e.refused e.complete e.may_then e.full e.trail_then e.beside_then e.said_then e.stopped

pub returns-clause-say : goal.returns-clause-say
returns-clause-say g c = counted_stopped c.in-Err-roll_guarded.status _ _ c.in-Err-roll_guarded.ensures.statuses c.in-Err-roll_guarded.ensures.say_faults

pub returns-in-Ok-roll_guarded-clause-does : goal.returns-in-Ok-roll_guarded-clause-does
returns-in-Ok-roll_guarded-clause-does g c =
    let e = c.in-Ok-roll_guarded.ensures in
    let s = c.say_done.ensures in
    let line : c.as_slice.result.now ≡ rolled_text c.args.point = c.as_slice.ensures ∙ c.in-Ok.ensures in
    rollback_done g.S.Site c.args.point c.args.site c.in-Ok-roll_guarded.recovered.site c.say_done.result.site c.say_done.result.status (made_of c.say_done.result.status s.statuses) e.may e.trail e.beside e.said e.moments e.ends
    (λ tells. said_line c.say_done.result.status _ (rolled_text c.args.point) _ _ line (s.says tells)) s.files (steps_weaken s.moments (λ x y now p. p.files))

pub returns-in-Ok-roll_guarded-clause-disk : goal.returns-in-Ok-roll_guarded-clause-disk
returns-in-Ok-roll_guarded-clause-disk g c = counted_done c.say_done.result.status _ _ _ (made_of c.say_done.result.status c.say_done.ensures.statuses) c.in-Ok-roll_guarded.ensures.clean.0 c.say_done.ensures.disk

pub returns-in-Ok-roll_guarded-clause-say : goal.returns-in-Ok-roll_guarded-clause-say
returns-in-Ok-roll_guarded-clause-say g c = counted_said c.say_done.result.status _ _ _ c.in-Ok-roll_guarded.ensures.clean.1 c.say_done.ensures.say

pub returns-in-Ok-roll_guarded-clause-same : goal.returns-in-Ok-roll_guarded-clause-same
returns-in-Ok-roll_guarded-clause-same g c = g.met.S.Site.same_then c.args.site c.in-Ok-roll_guarded.recovered.site c.say_done.result.site c.in-Ok-roll_guarded.ensures.same c.say_done.ensures.same

pub returns-clause-taken : goal.returns-clause-taken
returns-clause-taken g c = restore_unread c.in-Err-roll_guarded.status (inl c.in-Err-roll_guarded.ensures.statuses)

pub returns-in-Ok-roll_guarded-clause-taken : goal.returns-in-Ok-roll_guarded-clause-taken
returns-in-Ok-roll_guarded-clause-taken g c = restore_unread c.say_done.result.status (inr (made_of c.say_done.result.status c.say_done.ensures.statuses))

pub returns-in-Err-clause-taken : goal.returns-in-Err-clause-taken
returns-in-Err-clause-taken g c = λ read. read
