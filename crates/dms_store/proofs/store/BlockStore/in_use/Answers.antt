use Rattle.std.proofs.Common.{Bool, subst, sym}
use Rattle.std.specs.Prelude.{IfOk}
use Rattle.std.specs.declared.result.Result.{Result}
use Rattle.dms_block.specs.declared.block_fault.BlockFault.{BlockFault}
use Rattle.dms_block.specs.View.{under}
use Rattle.dms_desc.specs.Shape.{as_described}
use Rattle.dms_model.specs.Changing.{TellsWhere}
use Rattle.dms_model.specs.Uses.{in_use}
use Rattle.dms_store.specs.Lifted.{store_seen}
use Rattle.dms_store.specs.Looked.{Looked}
use Rattle.dms_store.specs.RelatingLaws.{looked_for, reads_only, ready_of, tells_where}
use Rattle.dms_store.specs.TakenLaws.{look_known, unbroken_mark}
use Rattle.dms_store.proofs.store.BlockStore.in_use.Goals as goal

pub in_use-used-requires-clause-ready : goal.in_use-used-requires-clause-ready
in_use-used-requires-clause-ready g c = ready_of (as_described c.args.self.now.desc) c.args.self.now.over c.requires.sound

pub returns-clause-found : goal.returns-clause-found
returns-clause-found g c =
    let desc = as_described c.args.self.now.desc in
    let o = c.args.self.now.over in
    subst (λ (r : Result Bool BlockFault). IfOk r (TellsWhere (store_seen desc c.args.self.now.found o).db c.args.set c.args.number (λ d. in_use desc d c.args.set c.args.number))) (sym c.note.ensures.same)
    (tells_where desc c.args.self.now.found o c.args.set c.args.number (λ d. in_use desc d c.args.set c.args.number) c.in_use-used.result c.requires.sound.none c.in_use-used.ensures.answer)

pub returns-clause-looked : goal.returns-clause-looked
returns-clause-looked g c =
    let desc = as_described c.args.self.now.desc in
    let o = c.args.self.now.over in
    subst (λ (r : Result Bool BlockFault). Looked r (store_seen desc c.args.self.now.found o) (store_seen desc c.note.new.found c.in_use-used.new.over)) (sym c.note.ensures.same)
    (looked_for desc (λ d. 0) c.args.self.now.found c.note.new.found o c.in_use-used.new.over c.in_use-used.result c.note.ensures.small c.note.ensures.noted c.requires.sound (g.met.B.Blocks.agrees o.below c.requires.sound.sound) g.met.B.Blocks.same_pace
    (reads_only o c.in_use-used.new.over c.in_use-used.result c.requires.sound.none c.in_use-used.ensures.none c.in_use-used.ensures.writes) c.in_use-used.ensures.writes.causes c.in_use-used.ensures.below)

pub invariant_of-self : goal.invariant_of-self
invariant_of-self g c = record {
  taken = look_known (as_described c.args.self.now.desc) c.args.self.now.known.counts c.keep.new.self.counts (under c.args.self.now.over) (under c.in_use-used.new.over) c.in_use-used.ensures.writes.writes.looks.passes.lasts
      c.in_use-used.result c.keep.ensures.counts c.in_use-used.ensures.writes.writes.looks c.args.self.now.taken;
  marked = unbroken_mark (as_described c.args.self.now.desc) c.args.self.now.known.marked c.keep.new.self.marked (under c.args.self.now.over) (under c.in_use-used.new.over) c.in_use-used.ensures.writes.writes.looks.passes.lasts
      c.in_use-used.result c.keep.ensures.marked c.in_use-used.ensures.writes.writes.looks.stays c.args.self.now.marked;
}
