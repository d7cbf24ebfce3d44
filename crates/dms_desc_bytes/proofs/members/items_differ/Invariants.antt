use Rattle.std.proofs.Common.{◌≡◌, drop}
use Rattle.dms_desc_bytes.specs.Lists.{apart}
use Rattle.dms_desc_bytes.specs.Members.{items_differ}
use Rattle.dms_desc_bytes.proofs.members.items_differ.Given as goal

-- what is left gives what the whole gives
abbrev pub invariant-loop-i : goal.invariant-loop-i
invariant-loop-i l = apart items_differ (drop l.i l.items) ≡ apart items_differ l.items
