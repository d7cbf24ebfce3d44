use Rattle.std.proofs.Common.{◌≡◌, ◌++◌}
use Rattle.dms_runner.specs.Firsts.{standing}
use Rattle.dms_runner.proofs.slots.into_lines.Given as goal

abbrev pub invariant-loop-slot : goal.invariant-loop-slot
invariant-loop-slot l = l.lines.items ++ standing l.slot-iterator.rest.items ≡ standing l.fn.waiting.slots.items
