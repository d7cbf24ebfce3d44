use Rattle.std.proofs.Common.{length, take, ◌-◌, ◌≡◌, ◌≤◌, ◌++◌, IsTrue}
use Rattle.dms_moments.specs.Moments.{Steps}
use Rattle.dms_calls.specs.World.{Speaks}
use Rattle.dms_folder.proofs.print.print_all.Given as goal

abbrev pub invariant-loop-done : goal.invariant-loop-done
invariant-loop-done g l = record {
  within : l.done ≤ length l.bytes;
  said : IsTrue g.C.Calls.tells → (g.C.Calls.world l.calls).said ≡ (g.C.Calls.world l.fn.calls).said ++ take l.done l.bytes;
  some : IsTrue g.C.Calls.tells → Speaks l.bytes (g.C.Calls.world l.fn.calls) (g.C.Calls.world l.calls);
  moments : Steps (Speaks l.bytes) (g.C.Calls.clock l.fn.calls) (g.C.Calls.clock l.calls);
  broken : g.C.Calls.broken l.calls ≡ g.C.Calls.broken l.fn.calls;
}

abbrev pub decreases-loop-done : goal.decreases-loop-done
decreases-loop-done g l = length l.bytes - l.done
