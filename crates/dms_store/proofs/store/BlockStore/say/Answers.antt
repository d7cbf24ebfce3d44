use Rattle.dms_desc.specs.Shape.{as_described}
use Rattle.dms_store.specs.LiftedLaws.{text_lifted}
use Rattle.dms_store.specs.TakenLaws.{call_known, mark_known}
use Rattle.dms_store.proofs.store.BlockStore.say.Goals as goal

pub returns-clause-part : goal.returns-clause-part
returns-clause-part g c = record {
  next = c.say-said.ensures.next;
  part = c.say-said.ensures.part;
  leaves = λ tells room. text_lifted (as_described c.args.self.now.desc) (g.B.Blocks.held c.args.self.now.over.below) (g.B.Blocks.held c.say-said.new.self) c.args.bytes.now (c.say-said.ensures.leaves tells room);
}

pub invariant_of-self-2 : goal.invariant_of-self-2
invariant_of-self-2 g c = record {
  taken = call_known (as_described c.args.self.now.desc) c.args.self.now.known.counts c.keep.new.self.counts (g.B.Blocks.held c.args.self.now.over.below) (g.B.Blocks.held c.say-said.new.self) c.say-said.ensures.lasts
      c.say-said.result c.keep.ensures.counts c.say-said.ensures.unchanged c.args.self.now.taken;
  marked = mark_known (as_described c.args.self.now.desc) c.args.self.now.known.marked c.keep.new.self.marked (g.B.Blocks.held c.args.self.now.over.below) (g.B.Blocks.held c.say-said.new.self) c.say-said.ensures.lasts
      c.say-said.result c.keep.ensures.marked c.say-said.ensures.stays c.args.self.now.marked;
}
