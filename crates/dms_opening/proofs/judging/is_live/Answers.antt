use Rattle.std.specs.Prelude.{◌&&◌}
use Rattle.std.proofs.Common.{sym, ◌∙◌}
use Rattle.dms_history.specs.Lists.{has, until_first}
use Rattle.dms_history.specs.Ranges.{is_point_logged}
use Rattle.dms_opening.specs.Judged.{is_described_logged}
use Rattle.dms_restore.specs.LiveEntries.{logged_live}
use Rattle.dms_opening.proofs.judging.is_live.Goals as goal

pub returns-in-Some : goal.returns-in-Some
returns-in-Some c files = c.has_described.ensures files ∙ (λ i. sym (c.in-Some.ensures.found files) i && has is_described_logged (sym (c.in-Some.ensures.front files) i))

pub returns-in-None : goal.returns-in-None
returns-in-None c files = λ i. sym (c.in-None.ensures.nowhere files) i && has is_described_logged (until_first (is_point_logged c.args.point) (logged_live files c.args.live.now))
