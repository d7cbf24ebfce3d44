use Rattle.std.proofs.Common.{◌≡◌, drop}
use Rattle.dms_desc_bytes.specs.Lists.{apart}
use Rattle.dms_desc_bytes.specs.WellFormed.{parts_differ}
use Rattle.dms_desc_bytes.proofs.sets.parts_differ.Given as goal

-- what is left gives what the whole gives
abbrev pub invariant-loop-i : goal.invariant-loop-i
invariant-loop-i l = apart parts_differ (drop l.i l.parts) ≡ apart parts_differ l.parts
