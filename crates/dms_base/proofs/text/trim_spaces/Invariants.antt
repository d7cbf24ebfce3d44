use Rattle.std.proofs.Common.{◌≡◌, ◌≤◌, take}
use Rattle.dms_base.specs.Text.{trim_spaces}
use Rattle.dms_base.proofs.text.trim_spaces.Given as goal

abbrev pub invariant-loop-i : goal.invariant-loop-i
invariant-loop-i l = record { within : l.end ≤ l.i; same : trim_spaces (take l.i l.bytes) ≡ take l.end l.bytes }
