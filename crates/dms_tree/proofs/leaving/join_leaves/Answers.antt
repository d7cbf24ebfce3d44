use Rattle.std.proofs.Common.{◌≡◌, ◌+◌, ◌*◌, ◌≤◌, ◌<◌, refl, length, arith}
use Rattle.dms_block.specs.View.{seen_counts}
use Rattle.dms_chain.specs.SpellLaws.{wide_room}
use Rattle.dms_tree.specs.LeafJoints.{LeafJointHolds}
use Rattle.dms_tree.specs.LeafMends.{LeafMends, join_leaf_mends}
use Rattle.dms_tree.proofs.leaving.join_leaves.Goals as goal

pub leaf_block-requires-clause-room : goal.leaf_block-requires-clause-room
leaf_block-requires-clause-room g c = let j = c.args.joint in wide_room j.width j.whole.entries.items c.requires.holds.wide c.requires.fits

pub returns-clause-mends : goal.returns-clause-mends
returns-clause-mends g c =
    join_leaf_mends c.args.over.now c.write.new.self c.write-2.new.self c.args.file c.args.joint _ c.leaf_block.result.0 c.free_block.result.0 c.in_ok-write.ensures.below c.requires.holds c.requires.end
    c.in_ok-write.ensures.seen c.in_ok-write.ensures.counts c.in_ok-write-2.ensures.seen c.in_ok-write-2.ensures.counts refl refl refl refl c.requires.fits c.leaf_block.ensures c.free_block.ensures refl c.remove.ensures.by_index.2 refl
