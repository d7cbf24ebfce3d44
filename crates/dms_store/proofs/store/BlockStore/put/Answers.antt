use Rattle.std.proofs.Common.{◌≡◌, subst, sym}
use Rattle.std.specs.Prelude.{IfOk}
use Rattle.std.specs.declared.result.Result.{Result}
use Rattle.dms_block.specs.declared.block_fault.BlockFault.{BlockFault}
use Rattle.dms_block.specs.Faults.{IfFull}
use Rattle.dms_desc.specs.Shape.{as_described}
use Rattle.dms_model.specs.Fitting.{PutFits}
use Rattle.dms_model.specs.declared.put.Put.{Put}
use Rattle.dms_model.specs.Changing.{storing_count}
use Rattle.dms_store.specs.Addressed.{FewStored}
use Rattle.dms_store.specs.Lifted.{store_seen}
use Rattle.dms_store.specs.PuttingStore.{Changes, FullWhere, Stores, change_noted, full_where, spends, stores}
use Rattle.dms_block.specs.View.{under}
use Rattle.dms_store.specs.Taken.{AreTakenIn}
use Rattle.dms_store.specs.TakenLaws.{put_known, unbroken_mark}
use Rattle.dms_store.proofs.store.BlockStore.put.Goals as goal

pub returns-clause-fits : goal.returns-clause-fits
returns-clause-fits g c = subst (λ r. IfOk r (PutFits (as_described c.args.self.now.desc) c.args.set)) (sym c.note.ensures.same) c.put-stored.ensures.fits

pub returns-clause-put : goal.returns-clause-put
returns-clause-put g c =
    let desc = as_described c.args.self.now.desc in
    let o = c.args.self.now.over in
    subst (λ r. IfOk r (Stores desc (store_seen desc c.args.self.now.found o).db (store_seen desc c.note.new.found c.put-stored.new.over).db c.args.set c.args.number c.args.rec.now)) (sym c.note.ensures.same)
    (stores desc c.args.self.now.found c.note.new.found o c.put-stored.new.over (FewStored desc c.args.set c.args.number o) c.args.set c.args.number c.args.rec.now c.put-stored.result c.put-stored.ensures.hands_down c.put-stored.ensures.answers)

pub returns-clause-changed : goal.returns-clause-changed
returns-clause-changed g c =
    let desc = as_described c.args.self.now.desc in
    let o = c.args.self.now.over in
    subst (λ r. Changes r (store_seen desc c.args.self.now.found o) (store_seen desc c.note.new.found c.put-stored.new.over)) (sym c.note.ensures.same)
    (change_noted desc c.args.self.now.found c.note.new.found o c.put-stored.new.over (FewStored desc c.args.set c.args.number o) c.put-stored.result c.note.ensures.small c.note.ensures.noted c.requires.sound
    (g.met.B.Blocks.agrees o.below c.requires.sound.sound) g.met.B.Blocks.same_pace c.put-stored.ensures.written c.put-stored.ensures.hands_down c.put-stored.ensures.below)

pub returns-clause-spends : goal.returns-clause-spends
returns-clause-spends g c =
    let desc = as_described c.args.self.now.desc in
    spends desc c.args.self.now.found c.note.new.found c.args.self.now.over c.put-stored.new.over (storing_count desc c.args.set c.args.number) c.put-stored.result c.put-stored.ensures.hands_down

pub returns-clause-full : goal.returns-clause-full
returns-clause-full g c = subst (λ (r : Result Put BlockFault). IfFull r (λ f. f ≡ (g.B.Blocks.pace c.args.self.now.over.below).last)) (sym c.note.ensures.same) c.put-stored.ensures.full

pub returns-clause-stored : goal.returns-clause-stored
returns-clause-stored g c =
    let desc = as_described c.args.self.now.desc in
    let o = c.args.self.now.over in
    subst (λ (r : Result Put BlockFault). FullWhere desc (store_seen desc c.args.self.now.found o).db c.args.set c.args.number c.args.rec.now r) (sym c.note.ensures.same)
    (full_where desc c.args.self.now.found c.note.new.found o c.put-stored.new.over c.args.set c.args.number c.args.rec.now c.put-stored.result c.put-stored.ensures.stored)

pub put-stored-requires-clause-known : goal.put-stored-requires-clause-known
put-stored-requires-clause-known g c told =
    subst (AreTakenIn (as_described c.args.self.now.desc) c.args.set (under c.args.self.now.over).content) (sym c.of-taken.ensures) (c.args.self.now.taken told c.args.set)

pub invariant_of-self : goal.invariant_of-self
invariant_of-self g c = record {
  taken = put_known (as_described c.args.self.now.desc) c.args.self.now.known.counts c.note_put.new.self.counts (under c.args.self.now.over) (under c.put-stored.new.over) c.put-stored.ensures.hands_down.hands.alters.passes.lasts
      c.args.set c.args.number c.put-stored.result c.note_put.ensures.counts c.put-stored.ensures.next c.put-stored.ensures.taken c.args.self.now.taken;
  marked = unbroken_mark (as_described c.args.self.now.desc) c.args.self.now.known.marked c.note_put.new.self.marked (under c.args.self.now.over) (under c.put-stored.new.over) c.put-stored.ensures.hands_down.hands.alters.passes.lasts
      c.put-stored.result c.note_put.ensures.marked c.put-stored.ensures.hands_down.hands.alters.stays c.args.self.now.marked;
}
