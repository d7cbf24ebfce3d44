use Rattle.std.proofs.Common.{◌≡◌, drop}
use Rattle.dms_links.specs.Linking.{has_link_into}
use Rattle.dms_links.proofs.walking.has_link_into.Given as goal

abbrev pub invariant-loop-item : goal.invariant-loop-item
invariant-loop-item l = has_link_into l.to (drop l.item-index l.items) ≡ has_link_into l.to l.items
