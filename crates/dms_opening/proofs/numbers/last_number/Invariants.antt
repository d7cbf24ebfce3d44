use Rattle.std.proofs.Common.{◌≡◌, take}
use Rattle.dms_site.specs.Files.{Files}
use Rattle.dms_history.specs.History.{last_number}
use Rattle.dms_restore.specs.LiveEntries.{events_at}
use Rattle.dms_opening.proofs.numbers.last_number.Given as goal

abbrev pub invariant-loop-entry : goal.invariant-loop-entry
invariant-loop-entry l = (files : Files) → l.last ≡ last_number l.fn.first (events_at files (take l.entry-index l.live))
