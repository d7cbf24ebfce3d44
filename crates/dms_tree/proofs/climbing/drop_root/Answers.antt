use Rattle.std.proofs.Common.{◌≡◌, ◌+◌, ◌≤◌, ◌<◌, length, arith}
use Rattle.std.proofs.lemmas.Result.{on_ok_weaker}
use Rattle.dms_block.specs.View.{seen_counts}
use Rattle.dms_tree.specs.Climbs.{Closes, closes_drop}
use Rattle.dms_tree.specs.Coming.{on_ok_two}
use Rattle.dms_tree.proofs.climbing.drop_root.Goals as goal

pub index-root-requires : goal.index-root-requires
index-root-requires g c = omega (arith, c.requires.holds.more)

pub returns-clause-closes : goal.returns-clause-closes
returns-clause-closes g c = on_ok_weaker c.write-2.result (λ wrote.
    closes_drop c.args.over.now c.write.new.self c.write-2.new.self c.args.file c.args.gap.now c.index-root.result.now c.free_block.result.0 c.root_block.result.0 c.in_ok-write.ensures.below c.requires.holds c.requires.none c.index-root.ensures c.requires.end
    c.free_block.ensures c.root_block.ensures c.in_ok-write.ensures.seen c.in_ok-write.ensures.counts wrote.0 wrote.1)
    (on_ok_two _ _ c.write-2.result c.write-2.ensures.seen c.write-2.ensures.counts)
