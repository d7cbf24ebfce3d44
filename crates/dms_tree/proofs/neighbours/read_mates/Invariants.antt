use Rattle.std.proofs.Common.{◌≡◌, IsTrue, take}
use Rattle.std.specs.declared.result.Result.TheVariants.{Ok}
use Rattle.dms_block.specs.View.{ReadsOverlay, overlay_content, seen_counts, under}
use Rattle.dms_tree.specs.UpMates.{MatesHold, SayMates}
use Rattle.dms_tree.proofs.neighbours.read_mates.Given as goal

abbrev pub invariant-loop-step : goal.invariant-loop-step
invariant-loop-step g l = record {
  reads : ReadsOverlay {T = Unit {0}} l.step-index (Ok tt) l.fn.over l.over;
  faults : (under l.over).faults ≡ (under l.fn.over).faults;
  mates : IsTrue (under l.fn.over).told → SayMates (overlay_content l.fn.over l.file) l.width (take l.step-index l.path) l.mates.items;
  holds : MatesHold l.width (seen_counts l.fn.over l.file) (take l.step-index l.path) l.mates.items;
}
