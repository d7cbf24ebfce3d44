use Rattle.std.proofs.Common.{◌≡◌, drop, map}
use Rattle.std.specs.List.{list_all}
use Rattle.dms_desc.specs.Shape.{shape_of}
use Rattle.dms_desc_bytes.specs.WellFormed.{is_sound}
use Rattle.dms_desc_bytes.proofs.checks.are_all_sound.Given as goal

-- what is left gives what the whole gives
abbrev pub invariant-loop-s : goal.invariant-loop-s
invariant-loop-s l = list_all (is_sound (map shape_of l.structures)) (map shape_of (drop l.s-index l.structures)) ≡ list_all (is_sound (map shape_of l.structures)) (map shape_of l.structures)
