use Rattle.std.proofs.Common.{◌≡◌, drop, map}
use Rattle.std.specs.List.{list_any}
use Rattle.dms_desc.specs.Shape.{shape_of}
use Rattle.dms_script.specs.Looks.{has_link}
use Rattle.dms_script.proofs.look.one_has_link.Given as goal

-- if one has it, one of those to come has
abbrev pub invariant-loop-structure : goal.invariant-loop-structure
invariant-loop-structure l = list_any (has_link l.to l.name) (map shape_of (drop l.structure-index l.structures)) ≡ list_any (has_link l.to l.name) (map shape_of l.structures)
