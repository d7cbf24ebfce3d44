use Rattle.std.proofs.Common.{◌≡◌, drop}
use Rattle.dms_desc_bytes.specs.Lists.{apart}
use Rattle.dms_desc_bytes.specs.Members.{groups_follow}
use Rattle.dms_desc_bytes.proofs.members.groups_follow.Given as goal

-- what is left gives what the whole gives
abbrev pub invariant-loop-i : goal.invariant-loop-i
invariant-loop-i l = apart groups_follow (drop l.i l.groups) ≡ apart groups_follow l.groups
