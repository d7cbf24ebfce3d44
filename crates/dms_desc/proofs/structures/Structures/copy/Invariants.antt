use Rattle.std.proofs.Common.{◌≡◌, take, map}
use Rattle.dms_desc.specs.Shape.{shape_of}
use Rattle.dms_desc.proofs.structures.Structures.copy.Given as goal

abbrev pub invariant-loop-structure : goal.invariant-loop-structure
invariant-loop-structure l = map shape_of l.made ≡ take l.structure-index (map shape_of l.structure-items)
