use Rattle.dms_wal.specs.Differing.{SameBelow}
use Rattle.dms_wal.proofs.differing.first_place.Given as goal

abbrev pub invariant-loop-place : goal.invariant-loop-place
invariant-loop-place l = SameBelow l.place l.before l.after
