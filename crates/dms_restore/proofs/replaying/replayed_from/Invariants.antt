use Rattle.dms_restore.proofs.Replayed.{ReplaysSoFar}
use Rattle.dms_restore.proofs.replaying.replayed_from.Given as goal

abbrev pub invariant-loop-i : goal.invariant-loop-i
invariant-loop-i l = ReplaysSoFar l.front l.from l.i l.imaged l.table.items
