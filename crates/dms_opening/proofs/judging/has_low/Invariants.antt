use Rattle.std.proofs.Common.{◌≡◌, false, take}
use Rattle.dms_site.specs.Files.{Files}
use Rattle.dms_history.specs.Lists.{has}
use Rattle.dms_restore.specs.LiveEntries.{logged_live}
use Rattle.dms_opening.specs.Judged.{is_low_logged}
use Rattle.dms_opening.proofs.judging.has_low.Given as goal

abbrev pub invariant-loop-entry : goal.invariant-loop-entry
invariant-loop-entry l = (files : Files) → has (is_low_logged (logged_live files l.live) l.point) (logged_live files (take l.entry-index l.live)) ≡ false
