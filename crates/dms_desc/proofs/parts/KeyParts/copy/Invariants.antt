use Rattle.std.proofs.Common.{◌≡◌, take}
use Rattle.dms_desc.proofs.parts.KeyParts.copy.Given as goal

abbrev pub invariant-loop-part : goal.invariant-loop-part
invariant-loop-part l = l.made ≡ take l.part-index l.part-items
