use Rattle.std.proofs.Common.{◌≡◌, take}
use Rattle.dms_desc.proofs.groups.Groups.copy.Given as goal

abbrev pub invariant-loop-group : goal.invariant-loop-group
invariant-loop-group l = l.made ≡ take l.group-index l.group-items
