use Rattle.std.proofs.Common.{sym, ◌∙◌}
use Rattle.dms_restore.specs.LiveEntries.{logged_live, changes_at}
use Rattle.dms_opening.proofs.Logged.{live_changes, low_changes}
use Rattle.dms_opening.proofs.Judges.{judged_high, judged_live, judged_void, judged_missing}
use Rattle.dms_opening.proofs.judging.judge_point.Goals as goal

pub returns-then-next-point : goal.returns-then-next-point
returns-then-next-point c files = sym (judged_high (changes_at files c.args.live.now) c.args.next c.args.point c.if-next-point.true)

pub returns-then-is_live : goal.returns-then-is_live
returns-then-is_live c files = sym (judged_live (changes_at files c.args.live.now) c.args.next c.args.point c.if-next-point.false (live_changes (logged_live files c.args.live.now) c.args.point ∙ sym (c.is_live.ensures files) ∙ c.if-is_live.true))

pub returns-then-has_low : goal.returns-then-has_low
returns-then-has_low c files =
    sym (judged_void (changes_at files c.args.live.now) c.args.next c.args.point c.if-next-point.false (live_changes (logged_live files c.args.live.now) c.args.point ∙ sym (c.is_live.ensures files) ∙ c.if-is_live.false) (low_changes (logged_live files c.args.live.now) c.args.point ∙ sym (c.has_low.ensures files) ∙ c.if-has_low.true))

pub returns-else-has_low : goal.returns-else-has_low
returns-else-has_low c files = sym (judged_missing (changes_at files c.args.live.now) c.args.next c.args.point c.if-next-point.false (low_changes (logged_live files c.args.live.now) c.args.point ∙ sym (c.has_low.ensures files) ∙ c.if-has_low.false))
