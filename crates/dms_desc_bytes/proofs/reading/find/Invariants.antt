use Rattle.std.proofs.Common.{◌≡◌, drop, map}
use Rattle.dms_desc.specs.Shape.{shape_of}
use Rattle.dms_desc_bytes.specs.Decoding.{number_of}
use Rattle.dms_desc_bytes.proofs.reading.find.Given as goal

-- what is left gives what the whole gives
abbrev pub invariant-loop-structure : goal.invariant-loop-structure
invariant-loop-structure l = number_of l.fn.name (map shape_of (drop l.structure-index l.structure-items)) ≡ number_of l.fn.name (map shape_of l.structure-items)
