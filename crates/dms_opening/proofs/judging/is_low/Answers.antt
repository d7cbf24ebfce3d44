use Rattle.std.specs.Prelude.{◌&&◌}
use Rattle.std.proofs.Common.{sym, ◌∙◌, ap}
use Rattle.dms_opening.specs.Judged.{is_live_logged}
use Rattle.dms_restore.specs.declared.live.LiveEntry.{LiveEntry}
use Rattle.dms_restore.specs.LiveEntries.{logged_at, logged_live}
use Rattle.dms_opening.specs.Judged.{is_low_logged}
use Rattle.dms_opening.proofs.Judges.{not_above}
use Rattle.dms_opening.proofs.judging.is_low.Goals as goal

pub returns-then-number-point : goal.returns-then-number-point
returns-then-number-point c files =
    let live = logged_live files c.args.live.now in
    let n = c.in-Quiet.number in
    c.is_live.ensures files ∙ ap (λ b. b && is_live_logged live n) (sym (not_above n c.args.point c.if-number-point.true)) ∙ ap (λ (e : LiveEntry). is_low_logged live c.args.point (logged_at files e)) (sym c.in-Quiet.is)

pub returns-then-control-point : goal.returns-then-control-point
returns-then-control-point c files =
    let live = logged_live files c.args.live.now in
    let n = c.in-Controlled.control.point in
    c.is_live-then-control-point.ensures files ∙ ap (λ b. b && is_live_logged live n) (sym (not_above n c.args.point c.if-control-point.true))
    ∙ ap (λ (e : LiveEntry). is_low_logged live c.args.point (logged_at files e)) (sym c.in-Controlled.is)
