use Rattle.std.proofs.Common.{◌≡◌, ◌≤◌, ◌*◌, take}
use Rattle.dms_dump.specs.Head.{all_blocks}
use Rattle.dms_online.proofs.plan.blocks_of.Given as goal

abbrev pub invariant-loop-count : goal.invariant-loop-count
invariant-loop-count l = record {
  is : l.total ≡ all_blocks (take l.count-index l.counts);
  small : l.total ≤ 4294967296 * l.count-index;
}
