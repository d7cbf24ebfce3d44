use Rattle.std.proofs.Common.{List, subst, sym}
use Rattle.std.specs.Prelude.{IfOk}
use Rattle.std.specs.declared.result.Result.{Result}
use Rattle.dms_block.specs.declared.block_fault.BlockFault.{BlockFault}
use Rattle.dms_block.specs.View.{under}
use Rattle.dms_desc.specs.Shape.{as_described}
use Rattle.dms_model.specs.Changing.{TellsWhere}
use Rattle.dms_model.specs.Db.{Place}
use Rattle.dms_model.specs.Uses.{linkers}
use Rattle.dms_store.specs.Lifted.{store_seen}
use Rattle.dms_store.specs.Looked.{Looked}
use Rattle.dms_store.specs.RelatingLaws.{looked_for, tells_where}
use Rattle.dms_store.specs.TakenLaws.{look_known, unbroken_mark}
use Rattle.dms_store.proofs.store.BlockStore.linkers.Goals as goal

pub returns-clause-found : goal.returns-clause-found
returns-clause-found g c =
    let desc = as_described c.args.self.now.desc in
    let o = c.args.self.now.over in
    subst (λ (r : Result (List Place) BlockFault). IfOk r (TellsWhere (store_seen desc c.args.self.now.found o).db c.args.set c.args.number (λ d. linkers desc d c.args.set c.args.number))) (sym c.note.ensures.same)
    (tells_where desc c.args.self.now.found o c.args.set c.args.number (λ d. linkers desc d c.args.set c.args.number) c.linkers-found.result c.requires.sound.none c.linkers-found.ensures.told)

pub returns-clause-looked : goal.returns-clause-looked
returns-clause-looked g c =
    let desc = as_described c.args.self.now.desc in
    let o = c.args.self.now.over in
    subst (λ (r : Result (List Place) BlockFault). Looked r (store_seen desc c.args.self.now.found o) (store_seen desc c.note.new.found c.linkers-found.new.over)) (sym c.note.ensures.same)
    (looked_for desc (λ d. 0) c.args.self.now.found c.note.new.found o c.linkers-found.new.over c.linkers-found.result c.note.ensures.small c.note.ensures.noted c.requires.sound (g.met.B.Blocks.agrees o.below c.requires.sound.sound) g.met.B.Blocks.same_pace
    c.linkers-found.ensures.reads c.linkers-found.ensures.causes c.linkers-found.ensures.below)

pub invariant_of-self : goal.invariant_of-self
invariant_of-self g c = record {
  taken = look_known (as_described c.args.self.now.desc) c.args.self.now.known.counts c.keep.new.self.counts (under c.args.self.now.over) (under c.linkers-found.new.over) c.linkers-found.ensures.reads.looks.passes.lasts
      c.linkers-found.result c.keep.ensures.counts c.linkers-found.ensures.reads.looks c.args.self.now.taken;
  marked = unbroken_mark (as_described c.args.self.now.desc) c.args.self.now.known.marked c.keep.new.self.marked (under c.args.self.now.over) (under c.linkers-found.new.over) c.linkers-found.ensures.reads.looks.passes.lasts
      c.linkers-found.result c.keep.ensures.marked c.linkers-found.ensures.reads.looks.stays c.args.self.now.marked;
}
