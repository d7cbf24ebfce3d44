use Rattle.std.proofs.Common.{ap, length, arith}
use Rattle.dms_desc.specs.Shape.{as_described}
use Rattle.dms_creation.proofs.Making.{few_kept, blocks_range}
use Rattle.dms_creation.proofs.planning.make_plan.Goals as goal

pub counts_of-requires : goal.counts_of-requires
counts_of-requires c = omega (arith, few_kept c.args.desc.now c.requires.structures, ap length c.as_slice.ensures)

pub invariant_of-reach : goal.invariant_of-reach
invariant_of-reach c =
    let range = blocks_range (as_described c.args.desc.now) c.requires.parameters in
    record {
      room = omega (arith, range.0, c.from.ensures);
      few = omega (arith, range.1, c.from.ensures);
      low = omega arith;
      high = omega arith;
    }
