use Rattle.std.proofs.Common.{◌≡◌, ◌++◌, filter, take}
use Rattle.std.specs.Option.{option_copied}
use Rattle.dms_ordlist.specs.Walks.{has_tail}
use Rattle.dms_ordlist.proofs.walking.gather.Given as goal

abbrev pub invariant-loop-entry : goal.invariant-loop-entry
invariant-loop-entry l = l.ending.items ≡ l.fn.ending.items ++ filter (has_tail (option_copied l.tail)) (take l.entry-index l.entries)
