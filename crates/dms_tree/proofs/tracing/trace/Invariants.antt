use Rattle.std.proofs.Common.{◌≡◌, ◌+◌, ◌<◌, List, IsTrue, length, true}
use Rattle.std.specs.declared.result.Result.TheVariants.{Ok}
use Rattle.dms_block.specs.View.{ReadsOverlay, seen_counts, under}
use Rattle.dms_chain.specs.Seen.{look}
use Rattle.dms_tree.specs.Order.{key_of}
use Rattle.dms_tree.specs.Trails.{GoingUp}
use Rattle.dms_tree.specs.Ups.{ArePassed}
use Rattle.dms_tree.specs.Ways.{IfTreeFrom}
use Rattle.dms_tree.proofs.tracing.trace.Given as goal

abbrev pub invariant-loop-turn : goal.invariant-loop-turn
invariant-loop-turn g l = record {
  reads : ReadsOverlay {T = Unit {0}} (length l.path.items) (Ok tt) l.fn.over l.over;
  faults : (under l.over).faults ≡ (under l.fn.over).faults;
  named : l.named < seen_counts l.fn.over l.file;
  passed : ArePassed (length l.bytes) (seen_counts l.fn.over l.file) l.path.items;
  size : length l.path.items + 1 ≡ l._turn;
  way : IfTreeFrom l.fn.over l.file (length l.bytes) l.root (λ us ls. GoingUp (length l.bytes) (look l.fn.over l.file) (key_of true l.bytes) us ls l.root l.path.items l._turn l.at);
}
