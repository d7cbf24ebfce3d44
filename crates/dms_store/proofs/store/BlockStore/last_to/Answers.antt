use Rattle.std.proofs.Common.{subst, sym}
use Rattle.dms_desc.specs.Shape.{as_described}
use Rattle.dms_store.specs.Listed.{BadPath}
use Rattle.dms_store.specs.Looked.{Looked, look_noted}
use Rattle.dms_store.specs.Lifted.{store_seen}
use Rattle.dms_block.specs.View.{under}
use Rattle.dms_store.specs.TakenLaws.{look_known, unbroken_mark}
use Rattle.dms_store.proofs.store.BlockStore.last_to.Goals as goal

pub returns-clause-looked : goal.returns-clause-looked
returns-clause-looked g c =
    let desc = as_described c.args.self.now.desc in
    let o = c.args.self.now.over in
    subst (λ r. Looked r (store_seen desc c.args.self.now.found o) (store_seen desc c.note.new.found c.last_to-found.new.over)) (sym c.note.ensures.same)
    (look_noted desc c.args.self.now.found c.note.new.found o c.last_to-found.new.over (BadPath desc c.args.path o) c.last_to-found.result c.note.ensures.small c.note.ensures.noted c.requires.sound
    (g.met.B.Blocks.agrees o.below c.requires.sound.sound) g.met.B.Blocks.same_pace c.last_to-found.ensures.reads c.last_to-found.ensures.causes (λ d told f b bad. bad.untold d told))

pub invariant_of-self : goal.invariant_of-self
invariant_of-self g c = record {
  taken = look_known (as_described c.args.self.now.desc) c.args.self.now.known.counts c.keep.new.self.counts (under c.args.self.now.over) (under c.last_to-found.new.over) c.last_to-found.ensures.reads.looks.passes.lasts
      c.last_to-found.result c.keep.ensures.counts c.last_to-found.ensures.reads.looks c.args.self.now.taken;
  marked = unbroken_mark (as_described c.args.self.now.desc) c.args.self.now.known.marked c.keep.new.self.marked (under c.args.self.now.over) (under c.last_to-found.new.over) c.last_to-found.ensures.reads.looks.passes.lasts
      c.last_to-found.result c.keep.ensures.marked c.last_to-found.ensures.reads.looks.stays c.args.self.now.marked;
}
