use Rattle.std.proofs.Common.{◌∙◌, sym, ap}
use Rattle.dms_restore.specs.LiveEntries.{changes_at}
use Rattle.dms_opening.specs.Asked.{judge_last_point}
use Rattle.dms_opening.proofs.asked.judge_last_point.Goals as goal

pub returns-in-Some : goal.returns-in-Some
returns-in-Some c files = c.refuse_point.ensures files ∙ ap (judge_last_point c.args.next (changes_at files c.args.live.now)) (sym c.in-Some.is)
