use Rattle.std.proofs.Common.{◌≡◌, ◌++◌, flat_map, take}
use Rattle.dms_desc_bytes.specs.Spelling.{part_bytes}
use Rattle.dms_desc_bytes.proofs.writing.put_parts.Given as goal

abbrev pub invariant-loop-part : goal.invariant-loop-part
invariant-loop-part l = l.out ≡ l.initial.out ++ flat_map part_bytes (take l.part-index l.parts)
