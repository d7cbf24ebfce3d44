use Rattle.std.proofs.Common.{◌≡◌, ◌+◌, ◌≤◌, length}
use Rattle.dms_block.specs.View.{overlay_changes}
use Rattle.dms_tree.specs.Settling.{Settles}
use Rattle.dms_tree.specs.Ups.{writes_up}
use Rattle.dms_tree.proofs.settling.settle.Given as goal

abbrev pub invariant-loop-hole : goal.invariant-loop-hole
invariant-loop-hole g l = record {
  below : l.over.below ≡ l.fn.over.below;
  settles : Settles l.fn.over l.over l.file l.fn.hole l.hole;
  width_is : l.hole.width ≡ l.fn.hole.width;
  more : length (overlay_changes l.over) + writes_up l.hole ≤ length (overlay_changes l.fn.over) + writes_up l.fn.hole;
}

abbrev pub decreases-loop-hole : goal.decreases-loop-hole
decreases-loop-hole g l = length l.hole.fresh.items
