use Rattle.std.proofs.Common.{arith}
use Rattle.dms_history.specs.declared.event.FileCount.{FileCount}
use Rattle.dms_dump.proofs.Copied.{blocks_on}
use Rattle.dms_online.proofs.plan.blocks_of.Goals as goal

pub loop-count-preserved : goal.loop-count-preserved
loop-count-preserved c =
    let d : FileCount = record { file = 0; blocks = 0 } in
    let inv = c.loop-count.invariant in
    record {
      is = omega (arith, inv.is, blocks_on c.args.counts.now c.loop-count.count-index d c.loop-count-test.true, c.from-total.ensures);
      small = omega (arith, inv.small, c.from-total.ensures);
    }
