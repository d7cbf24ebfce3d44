use Rattle.std.proofs.Common.{◌≡◌, drop, map}
use Rattle.dms_desc.specs.Shape.{shape_of}
use Rattle.dms_desc.specs.Lookups.{structure_named}
use Rattle.dms_desc.proofs.lookups.structure_named.Given as goal

-- it stands among the rest where it stands at all
abbrev pub invariant-loop-structure : goal.invariant-loop-structure
invariant-loop-structure l = structure_named l.name (map shape_of (drop l.structure-index l.structures)) ≡ structure_named l.name (map shape_of l.structures)
