use Rattle.std.proofs.Common.{◌≡◌, drop}
use Rattle.dms_runner.specs.Firsts.{next_slot}
use Rattle.dms_runner.proofs.slots.next_of.Given as goal

abbrev pub invariant-loop-slot : goal.invariant-loop-slot
invariant-loop-slot l = next_slot l.slot l.name (drop l.slot l.slots) ≡ next_slot l.from l.name (drop l.from l.slots)
