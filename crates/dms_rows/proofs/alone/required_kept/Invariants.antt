use Rattle.std.proofs.Common.{◌≡◌, drop}
use Rattle.dms_rows.specs.Alone.{required_kept}
use Rattle.dms_rows.proofs.alone.required_kept.Given as goal

abbrev pub invariant-loop-item : goal.invariant-loop-item
invariant-loop-item l = required_kept (drop l.item-index l.items) l.rest ≡ required_kept l.items l.values
