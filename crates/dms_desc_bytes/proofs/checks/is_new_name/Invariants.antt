use Rattle.std.proofs.Common.{◌≡◌, drop, map}
use Rattle.std.specs.List.{list_all}
use Rattle.dms_desc.specs.Shape.{shape_of}
use Rattle.dms_desc_bytes.specs.WellFormed.{names_differ}
use Rattle.dms_desc_bytes.proofs.checks.is_new_name.Given as goal

-- what is left gives what the whole gives
abbrev pub invariant-loop-other : goal.invariant-loop-other
invariant-loop-other l = list_all (names_differ (shape_of l.s)) (map shape_of (drop l.other-index l.others)) ≡ list_all (names_differ (shape_of l.s)) (map shape_of l.others)
