use Rattle.std.proofs.Common.{◌≡◌, ◌+◌, ◌≤◌, ◌<◌, ℕ, List, sym, subst, length, arith}
use Rattle.std.proofs.lemmas.Result.{on_ok_weaker}
use Rattle.dms_block.specs.View.{overlay_content, seen_counts}
use Rattle.dms_tree.specs.declared.raising.PathStep.{PathStep}
use Rattle.dms_tree.specs.Around.{shrinks_from}
use Rattle.dms_tree.specs.LeafJoints.{leaves_hold}
use Rattle.dms_tree.specs.UpMates.{MatesHold}
use Rattle.dms_tree.proofs.lessening.shrink_leaf.Goals as goal

pub mated_leaves-requires-clause-more : goal.mated_leaves-requires-clause-more
mated_leaves-requires-clause-more g c = omega (arith, c.requires.here.inner.more)

pub mated_leaves-requires-clause-some : goal.mated_leaves-requires-clause-some
mated_leaves-requires-clause-some g c = c.requires.here.inner.some

pub mated_leaves-requires-clause-fit : goal.mated_leaves-requires-clause-fit
mated_leaves-requires-clause-fit g c = c.requires.here.fit

pub shrink-requires-clause-holds : goal.shrink-requires-clause-holds
shrink-requires-clause-holds g c =
    leaves_hold (seen_counts c.args.over.now c.args.file) c.args.short c.args.step c.args.around.leaf c.in_ok-joint.joint c.in_ok-joint.ensures c.requires.holds c.requires.here c.requires.leaf c.requires.near

pub shrink-requires-clause-mates : goal.shrink-requires-clause-mates
shrink-requires-clause-mates g c =
    let m = c.in_ok-joint.ensures in
    subst (λ (t : ℕ × List PathStep). MatesHold t.0 (seen_counts c.args.over.now c.args.file) t.1 c.args.around.mates.items) (λ i. (sym m.width_is i, sym m.path_is i)) c.requires.mates

pub returns-clause-shrinks : goal.returns-clause-shrinks
returns-clause-shrinks g c = on_ok_weaker c.shrink.result (λ p.
    shrinks_from c.args.over.now c.shrink.new.over c.args.file c.args.short c.args.step c.args.around c.in_ok-joint.joint c.in_ok-joint.ensures c.requires.here p) c.shrink.ensures.shrinks
