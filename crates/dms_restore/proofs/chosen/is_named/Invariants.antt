use Rattle.std.proofs.Common.{◌≡◌, drop}
use Rattle.dms_history.specs.Entries.{named_by}
use Rattle.dms_restore.proofs.chosen.is_named.Given as goal

abbrev pub invariant-loop-row : goal.invariant-loop-row
invariant-loop-row l = named_by l.rows l.file l.block ≡ named_by (drop l.row-index l.rows) l.file l.block
