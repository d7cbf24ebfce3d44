use Rattle.dms_points.proofs.Found.{Skips}
use Rattle.dms_points.proofs.keeping.place_among.Given as goal

abbrev pub invariant-loop-i : goal.invariant-loop-i
invariant-loop-i l = Skips l.i l.places l.number
