use Rattle.std.proofs.Common.{◌≡◌, false, take}
use Rattle.std.specs.List.{list_any}
use Rattle.dms_runner.specs.Firsts.{is_at}
use Rattle.dms_runner.proofs.slots.has_line.Given as goal

abbrev pub invariant-loop-j : goal.invariant-loop-j
invariant-loop-j l = list_any (is_at l.waiting.slots.items l.name) (take l.j l.waiting.firsts.items) ≡ false
