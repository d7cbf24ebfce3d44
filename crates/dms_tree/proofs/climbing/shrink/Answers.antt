use Rattle.std.proofs.Common.{◌≡◌, ◌+◌, ◌*◌, ◌≤◌, ◌∙◌, ℕ, List, refl, sym, subst, length, arith}
use Rattle.std.proofs.lemmas.Result.{on_ok_weaker}
use Rattle.dms_block.specs.View.{overlay_content, seen_counts}
use Rattle.dms_tree.specs.declared.raising.PathStep.{PathStep}
use Rattle.dms_tree.specs.Climbs.{ClimbHolds, IsWholeUp, Shrinks, shrinks_by}
use Rattle.dms_tree.specs.UpMates.{MatesHold}
use Rattle.dms_tree.proofs.climbing.shrink.Goals as goal

pub mend_all-requires-clause-holds : goal.mend_all-requires-clause-holds
mend_all-requires-clause-holds g c =
    let p = c.in_ok-gap.ensures.mends in
    record {
      gap = p.holds;
      mates = subst (λ (t : (ℕ × ℕ) × List PathStep). MatesHold t.0.0 t.0.1 t.1 c.args.mates.items) (λ i. ((sym p.width_is i, sym (p.counts c.args.file) i), sym p.path_is i)) c.requires.mates;
    }

pub returns-clause-shrinks : goal.returns-clause-shrinks
returns-clause-shrinks g c = on_ok_weaker c.close.result (λ closed.
    shrinks_by c.args.over.now c.level_leaves.new.over c.mend_all.new.over c.close.new.over c.args.file c.args.joint c.args.mates.items c.in_ok-gap.gap _ c.in_ok-climbed.climbed c.level_leaves.ensures.below c.mend_all.ensures.below refl refl c.in_ok-gap.ensures.mends
    c.in_ok-climbed.ensures.climbs c.in_ok-climbed.ensures.enough closed) c.close.ensures.closes
