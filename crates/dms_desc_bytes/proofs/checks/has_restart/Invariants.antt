use Rattle.std.proofs.Common.{◌≡◌, drop, map}
use Rattle.std.specs.List.{list_any}
use Rattle.dms_desc.specs.Shape.{shape_of}
use Rattle.dms_desc.specs.Kinds.{is_restart}
use Rattle.dms_desc_bytes.proofs.checks.has_restart.Given as goal

-- what is left gives what the whole gives
abbrev pub invariant-loop-s : goal.invariant-loop-s
invariant-loop-s l = list_any is_restart (map shape_of (drop l.s-index l.structures)) ≡ list_any is_restart (map shape_of l.structures)
