use Rattle.std.proofs.Common.{◌≡◌, ◌+◌, drop, map}
use Rattle.dms_desc.specs.Shape.{shape_of}
use Rattle.dms_desc_bytes.specs.WellFormed.{stand_in_order}
use Rattle.dms_desc_bytes.proofs.checks.are_numbered.Given as goal

-- what is left gives what the whole gives
abbrev pub invariant-loop-i : goal.invariant-loop-i
invariant-loop-i l = stand_in_order (l.i + 1) (map shape_of (drop l.i l.structures)) ≡ stand_in_order 1 (map shape_of l.structures)
