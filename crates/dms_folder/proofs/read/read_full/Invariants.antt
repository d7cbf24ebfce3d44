use Rattle.std.proofs.Common.{length, drop, ◌-◌, ◌≡◌, ◌≤◌, ◌++◌, false, IsTrue}
use Rattle.dms_moments.specs.Moments.{Steps}
use Rattle.dms_site.specs.Files.{range}
use Rattle.dms_calls.specs.World.{Unchanged}
use Rattle.dms_folder.proofs.read.read_full.Given as goal

abbrev pub invariant-loop-got : goal.invariant-loop-got
invariant-loop-got g l =
    let file = (g.C.Calls.world l.fn.calls).bytes (g.C.Calls.file l.handle) in
    record {
      broken : g.C.Calls.broken l.calls ≡ false;
      bound : l.got ≤ length l.fn.into;
      long : length l.into ≡ length l.fn.into;
      some : IsTrue g.C.Calls.tells → l.got ≤ length (range l.at (length l.fn.into) file);
      into : IsTrue g.C.Calls.tells → l.into ≡ range l.at l.got file ++ drop l.got l.fn.into;
      world : g.C.Calls.world l.calls ≡ g.C.Calls.world l.fn.calls;
      moments : Steps Unchanged (g.C.Calls.clock l.fn.calls) (g.C.Calls.clock l.calls);
    }

abbrev pub decreases-loop-got : goal.decreases-loop-got
decreases-loop-got g l = length l.into - l.got
