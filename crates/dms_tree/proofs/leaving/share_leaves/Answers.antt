use Rattle.std.proofs.Common.{◌≡◌, ◌+◌, ◌*◌, ◌/◌, ◌≤◌, ◌<◌, ◌∙◌, ℕ, List, refl, sym, subst, length, get_or, arith}
use Rattle.dms_block.specs.View.{seen_counts}
use Rattle.dms_tree.specs.Finishing.{AreLeafHalves, halves_of}
use Rattle.dms_tree.specs.LeafJoints.{LeafJointHolds}
use Rattle.dms_tree.specs.LeafMends.{LeafMends, shared_leaves, share_leaf_mends}
use Rattle.dms_tree.proofs.leaving.share_leaves.Goals as goal

pub leaf_block-requires-clause-room : goal.leaf_block-requires-clause-room
leaf_block-requires-clause-room g c =
    let j = c.args.joint in
    let es = j.whole.entries.items in
    let first = subst (λ (r : List ℕ). r ≡ get_or c.in_ok-others.others.items 0 r) (sym c.in_ok-sep.ensures) c.index.ensures in
    let halves = halves_of es c.split_off.new.self.items c.in_ok-others.others.items c.in_ok-sep.sep c.len-half.result (c.len-half.result / 2) (omega (arith, c.len-half.ensures)) refl c.in_ok-others.ensures.items c.in_ok-others.ensures.tail first in
    (shared_leaves (seen_counts c.args.over.now c.args.file) j c.split_off.new.self.items c.in_ok-others.others.items c.in_ok-sep.sep c.requires.holds c.requires.many halves).rooms.0

pub leaf_block-requires-2-clause-room : goal.leaf_block-requires-2-clause-room
leaf_block-requires-2-clause-room g c =
    let j = c.args.joint in
    let es = j.whole.entries.items in
    let first = subst (λ (r : List ℕ). r ≡ get_or c.in_ok-others.others.items 0 r) (sym c.in_ok-sep.ensures) c.index.ensures in
    let halves = halves_of es c.split_off.new.self.items c.in_ok-others.others.items c.in_ok-sep.sep c.len-half.result (c.len-half.result / 2) (omega (arith, c.len-half.ensures)) refl c.in_ok-others.ensures.items c.in_ok-others.ensures.tail first in
    (shared_leaves (seen_counts c.args.over.now c.args.file) j c.split_off.new.self.items c.in_ok-others.others.items c.in_ok-sep.sep c.requires.holds c.requires.many halves).rooms.1

pub returns-clause-mends : goal.returns-clause-mends
returns-clause-mends g c =
    let j = c.args.joint in
    let es = j.whole.entries.items in
    let first = subst (λ (r : List ℕ). r ≡ get_or c.in_ok-others.others.items 0 r) (sym c.in_ok-sep.ensures) c.index.ensures in
    let halves = halves_of es c.split_off.new.self.items c.in_ok-others.others.items c.in_ok-sep.sep c.len-half.result (c.len-half.result / 2) (omega (arith, c.len-half.ensures)) refl c.in_ok-others.ensures.items c.in_ok-others.ensures.tail first in
    share_leaf_mends c.args.over.now c.write.new.self c.write-2.new.self c.args.file j _ c.leaf_block.result.0 c.leaf_block-2.result.0 c.in_ok-write.ensures.below c.requires.holds c.requires.end
    c.in_ok-write.ensures.seen c.in_ok-write.ensures.counts c.in_ok-write-2.ensures.seen c.in_ok-write-2.ensures.counts refl refl refl refl
    c.split_off.new.self.items c.in_ok-others.others.items c.in_ok-sep.sep c.requires.many halves c.leaf_block.ensures c.leaf_block-2.ensures refl refl c.in_ok-insert.ensures.items
