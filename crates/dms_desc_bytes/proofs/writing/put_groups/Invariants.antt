use Rattle.std.proofs.Common.{◌≡◌, ◌++◌, flat_map, take}
use Rattle.dms_desc_bytes.specs.Spelling.{group_bytes}
use Rattle.dms_desc_bytes.proofs.writing.put_groups.Given as goal

abbrev pub invariant-loop-group : goal.invariant-loop-group
invariant-loop-group l = l.out ≡ l.initial.out ++ flat_map group_bytes (take l.group-index l.groups)
