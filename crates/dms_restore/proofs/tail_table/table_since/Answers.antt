use Rattle.std.proofs.Common.{◌∷◌, drop, refl, ◌∙◌, ap}
use Rattle.dms_history.specs.Events.{quiet}
use Rattle.dms_history.specs.Ranges.{event}
use Rattle.dms_restore.specs.LiveEntries.{logged_live}
use Rattle.dms_restore.proofs.tail_table.table_since.Goals as goal

pub returns-in-Ok-clause-table : goal.returns-in-Ok-clause-table
returns-in-Ok-clause-table c files whole = c.in-Ok.ensures.table files (event (quiet 0) ∷ logged_live files c.args.live.now) 0 refl refl (tt, tt) whole

pub returns-in-Ok-clause-last : goal.returns-in-Ok-clause-last
returns-in-Ok-clause-last c files = c.after_control.ensures.behind files ∙ ap (λ k. logged_live files (drop k c.args.live.now)) c.if-after_control-ne0.false
