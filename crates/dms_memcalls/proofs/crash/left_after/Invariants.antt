use Rattle.std.proofs.Common.{◌≡◌, take}
use Rattle.dms_memcalls.specs.Views.{view}
use Rattle.dms_memcalls.specs.Outcomes.{seen_of, past_of}
use Rattle.dms_memcalls.specs.Strikes.{IsLeft}
use Rattle.dms_memcalls.proofs.crash.left_after.Given as goal

abbrev pub invariant-loop-place : goal.invariant-loop-place
invariant-loop-place l = record {
  shown : view l.stop.shown ≡ seen_of (past_of (take l.place l.events));
  left : IsLeft (past_of (take l.place l.events)) (view l.stop.left);
}
