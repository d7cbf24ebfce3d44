use Rattle.std.proofs.Common.{◌≡◌, drop}
use Rattle.dms_desc_bytes.specs.Lists.{apart}
use Rattle.dms_desc_bytes.specs.Members.{groups_differ}
use Rattle.dms_desc_bytes.proofs.members.groups_differ.Given as goal

-- what is left gives what the whole gives
abbrev pub invariant-loop-i : goal.invariant-loop-i
invariant-loop-i l = apart groups_differ (drop l.i l.groups) ≡ apart groups_differ l.groups
