use Rattle.std.proofs.Common.{◌≡◌, ◌++◌, take, drop}
use Rattle.dms_runner.specs.Firsts.{put_in}
use Rattle.dms_runner.proofs.slots.place_for.Given as goal

abbrev pub invariant-loop-place : goal.invariant-loop-place
invariant-loop-place l = take l.place l.firsts ++ put_in l.slot (drop l.place l.firsts) ≡ take l.from l.firsts ++ put_in l.slot (drop l.from l.firsts)
