use Rattle.std.proofs.Common.{◌≡◌, take}
use Rattle.dms_store.proofs.relating.places_of.Given as goal

abbrev pub invariant-loop-place : goal.invariant-loop-place
invariant-loop-place l = l.places ≡ take l.place-index l.found
