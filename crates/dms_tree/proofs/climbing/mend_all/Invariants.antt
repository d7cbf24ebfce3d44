use Rattle.std.proofs.Common.{◌≡◌, ◌+◌, ◌*◌, ◌≤◌, length}
use Rattle.dms_block.specs.View.{overlay_changes}
use Rattle.dms_tree.specs.Climbs.{Climbs}
use Rattle.dms_tree.proofs.climbing.mend_all.Given as goal

abbrev pub invariant-loop-over : goal.invariant-loop-over
invariant-loop-over g l = record {
  below : l.over.below ≡ l.fn.over.below;
  climbs : Climbs l.fn.over l.over l.file l.fn.start l.climb;
  more : length (overlay_changes l.over) + 2 * length l.climb.mates.items ≤ length (overlay_changes l.fn.over) + 2 * length l.fn.start.mates.items;
}

abbrev pub decreases-loop-over : goal.decreases-loop-over
decreases-loop-over g l = length l.climb.mates.items
