use Rattle.dms_desc.specs.Shape.{as_described}
use Rattle.dms_store.specs.TakenLaws.{nothing_known}
use Rattle.dms_store.proofs.store.BlockStore.new.Goals as goal

pub invariant_of-result : goal.invariant_of-result
invariant_of-result g c = record {
  taken = λ told. nothing_known (as_described c.in-Ok.desc) c.nothing.result.counts (g.B.Blocks.held c.new.result.below).content c.nothing.ensures.counts;
  marked = λ told. nothing_known (as_described c.in-Ok.desc) c.nothing.result.marked (g.B.Blocks.held c.new.result.below).mark c.nothing.ensures.marked;
}
