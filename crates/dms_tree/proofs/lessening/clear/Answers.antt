use Rattle.std.proofs.Common.{◌≡◌, ◌+◌, ◌≤◌, ◌<◌, length, arith}
use Rattle.std.proofs.lemmas.Result.{on_ok_weaker}
use Rattle.dms_block.specs.View.{seen_counts}
use Rattle.dms_tree.specs.Coming.{on_ok_two}
use Rattle.dms_tree.specs.TwoWrites.{two_counts, two_laid, two_others}
use Rattle.dms_tree.proofs.lessening.clear.Goals as goal

pub returns-clause-seen : goal.returns-clause-seen
returns-clause-seen g c = on_ok_weaker c.write-2.result (λ wrote.
    two_laid c.args.over.now c.write.new.self c.write-2.new.self c.args.file c.args.number 0 c.free_block.result.0 c.root_block.result.0 _ _ c.in_ok-write.ensures.below c.requires.near (omega (arith, c.requires.near)) c.free_block.ensures c.root_block.ensures
    c.in_ok-write.ensures.seen c.in_ok-write.ensures.counts wrote.0 wrote.1)
    (on_ok_two _ _ c.write-2.result c.write-2.ensures.seen c.write-2.ensures.counts)

pub returns-clause-others : goal.returns-clause-others
returns-clause-others g c = on_ok_weaker c.write-2.result (λ wrote.
    two_others c.args.over.now c.write.new.self c.write-2.new.self c.args.file c.args.number 0 c.free_block.result.0 c.root_block.result.0 _ _ c.in_ok-write.ensures.below c.requires.near (omega (arith, c.requires.near)) c.free_block.ensures c.root_block.ensures
    c.in_ok-write.ensures.seen c.in_ok-write.ensures.counts wrote.0 wrote.1)
    (on_ok_two _ _ c.write-2.result c.write-2.ensures.seen c.write-2.ensures.counts)

pub returns-clause-counts : goal.returns-clause-counts
returns-clause-counts g c = on_ok_weaker c.write-2.result (λ wrote.
    two_counts c.args.over.now c.write.new.self c.write-2.new.self c.args.file c.args.number 0 c.free_block.result.0 c.root_block.result.0 _ _ c.in_ok-write.ensures.below c.requires.near (omega (arith, c.requires.near)) c.free_block.ensures c.root_block.ensures
    c.in_ok-write.ensures.seen c.in_ok-write.ensures.counts wrote.0 wrote.1)
    (on_ok_two _ _ c.write-2.result c.write-2.ensures.seen c.write-2.ensures.counts)
