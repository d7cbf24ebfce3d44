use Rattle.std.proofs.Common.{◌≡◌, ◌++◌, take, drop}
use Rattle.dms_sitemem.specs.Events.{through}
use Rattle.dms_sitemem.proofs.crash.end_of.Given as goal

abbrev pub invariant-loop-place : goal.invariant-loop-place
invariant-loop-place l = through l.call l.events ≡ take l.place l.events ++ through l.left (drop l.place l.events)
