use Rattle.std.proofs.Common.{length, take, ◌-◌, ◌≡◌, ◌<◌, false, IsTrue, ◌≤◌}
use Rattle.dms_moments.specs.Moments.{Steps}
use Rattle.dms_site.specs.Files.{overlay_bytes, Torn}
use Rattle.dms_calls.specs.World.{OnFile}
use Rattle.dms_folder.proofs.write.write_all.Given as goal

abbrev pub invariant-loop-done : goal.invariant-loop-done
invariant-loop-done g l =
    let i = g.C.Calls.file l.handle in
    let old = (g.C.Calls.world l.fn.calls).bytes i in
    let new = (g.C.Calls.world l.calls).bytes i in
    (l.done ≤ length l.bytes)
    × (g.C.Calls.broken l.calls ≡ false)
    × (IsTrue g.C.Calls.tells → l.done ≡ 0 → new ≡ old)
    × (IsTrue g.C.Calls.tells → 0 < l.done → new ≡ overlay_bytes l.at (take l.done l.bytes) old)
    × OnFile i (Torn l.at (length l.bytes)) (g.C.Calls.world l.fn.calls) (g.C.Calls.world l.calls)
    × Steps (OnFile i (Torn l.at (length l.bytes))) (g.C.Calls.clock l.fn.calls) (g.C.Calls.clock l.calls)

abbrev pub decreases-loop-done : goal.decreases-loop-done
decreases-loop-done g l = length l.bytes - l.done
