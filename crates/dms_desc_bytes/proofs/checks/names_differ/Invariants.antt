use Rattle.std.proofs.Common.{◌≡◌, drop, map}
use Rattle.dms_desc.specs.Shape.{shape_of}
use Rattle.dms_desc_bytes.specs.Lists.{apart}
use Rattle.dms_desc_bytes.specs.WellFormed.{names_differ}
use Rattle.dms_desc_bytes.proofs.checks.names_differ.Given as goal

-- what is left gives what the whole gives
abbrev pub invariant-loop-i : goal.invariant-loop-i
invariant-loop-i l = apart names_differ (map shape_of (drop l.i l.structures)) ≡ apart names_differ (map shape_of l.structures)
