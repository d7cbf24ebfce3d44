use Rattle.std.proofs.Common.{◌≡◌, map, take}
use Rattle.dms_plain.specs.Removed.{kept_at}
use Rattle.dms_plain.specs.Rows.{records_in}
use Rattle.dms_plain.proofs.removal.kept_at_all.Given as goal

abbrev pub invariant-loop-place : goal.invariant-loop-place
invariant-loop-place l = l.kept.items ≡ map (kept_at (records_in l.rows)) (take l.place-index l.places)
