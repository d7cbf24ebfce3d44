use Rattle.std.proofs.Common.{subst, sym}
use Rattle.dms_desc.specs.Shape.{as_described}
use Rattle.dms_store.specs.Finding.{BadSlot}
use Rattle.dms_store.specs.Looked.{Looked, look_noted}
use Rattle.dms_store.specs.Lifted.{store_seen}
use Rattle.dms_store.specs.Undamaged.{no_bad_slot}
use Rattle.dms_block.specs.View.{under}
use Rattle.dms_store.specs.TakenLaws.{look_known, unbroken_mark}
use Rattle.dms_store.proofs.store.BlockStore.get.Goals as goal

pub returns-clause-looked : goal.returns-clause-looked
returns-clause-looked g c =
    let desc = as_described c.args.self.now.desc in
    let o = c.args.self.now.over in
    subst (λ r. Looked r (store_seen desc c.args.self.now.found o) (store_seen desc c.note.new.found c.get-found.new.over)) (sym c.note.ensures.same)
    (look_noted desc c.args.self.now.found c.note.new.found o c.get-found.new.over (BadSlot desc c.args.set o) c.get-found.result c.note.ensures.small c.note.ensures.noted c.requires.sound
    (g.met.B.Blocks.agrees o.below c.requires.sound.sound) g.met.B.Blocks.same_pace c.get-found.ensures.reads c.get-found.ensures.causes (λ d told f b. no_bad_slot desc o c.requires.sound d told c.args.set f b c.requires.set))

pub invariant_of-self : goal.invariant_of-self
invariant_of-self g c = record {
  taken = look_known (as_described c.args.self.now.desc) c.args.self.now.known.counts c.keep.new.self.counts (under c.args.self.now.over) (under c.get-found.new.over) c.get-found.ensures.reads.looks.passes.lasts
      c.get-found.result c.keep.ensures.counts c.get-found.ensures.reads.looks c.args.self.now.taken;
  marked = unbroken_mark (as_described c.args.self.now.desc) c.args.self.now.known.marked c.keep.new.self.marked (under c.args.self.now.over) (under c.get-found.new.over) c.get-found.ensures.reads.looks.passes.lasts
      c.get-found.result c.keep.ensures.marked c.get-found.ensures.reads.looks.stays c.args.self.now.marked;
}
