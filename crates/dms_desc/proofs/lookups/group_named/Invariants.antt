use Rattle.std.proofs.Common.{◌≡◌, drop}
use Rattle.dms_desc.specs.Lookups.{group_named}
use Rattle.dms_desc.proofs.lookups.group_named.Given as goal

-- it stands among the rest where it stands at all
abbrev pub invariant-loop-group : goal.invariant-loop-group
invariant-loop-group l = group_named l.name (drop l.group-index l.groups) ≡ group_named l.name l.groups
