use Rattle.std.proofs.Common.{◌≡◌, drop, map}
use Rattle.dms_desc.specs.Shape.{shape_of}
use Rattle.dms_desc_bytes.specs.Lists.{apart}
use Rattle.dms_desc_bytes.specs.WellFormed.{not_both_restart}
use Rattle.dms_desc_bytes.proofs.checks.has_no_second_restart.Given as goal

-- what is left gives what the whole gives
abbrev pub invariant-loop-i : goal.invariant-loop-i
invariant-loop-i l = apart not_both_restart (map shape_of (drop l.i l.structures)) ≡ apart not_both_restart (map shape_of l.structures)
