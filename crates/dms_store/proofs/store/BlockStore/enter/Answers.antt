use Rattle.std.proofs.Common.{◌≡◌, IfOk, subst, sym}
use Rattle.std.specs.declared.result.Result.{Result}
use Rattle.std.proofs.lemmas.Result.{IfOk-weaker}
use Rattle.dms_block.specs.declared.block_fault.BlockFault.{BlockFault}
use Rattle.dms_block.specs.Faults.{IfFull}
use Rattle.dms_block.specs.View.{under}
use Rattle.dms_desc.specs.Shape.{as_described}
use Rattle.dms_model.specs.Changing.{Enters, FullWhereEntered, MayEnter}
use Rattle.dms_model.specs.Fitting.{IsStored}
use Rattle.dms_model.specs.Uses.{enter_answer}
use Rattle.dms_model.specs.declared.put.Put.{Put}
use Rattle.dms_store.specs.Relating.{db_entered}
use Rattle.dms_store.specs.RelatingLaws.{changes_on, enters_as, full_after, full_entered, related_known, spends_on, tells_after}
use Rattle.dms_store.specs.Lifted.{store_seen}
use Rattle.dms_store.specs.PuttingStore.{Changes}
use Rattle.dms_store.specs.TakenLaws.{unbroken_mark}
use Rattle.dms_store.proofs.store.BlockStore.enter.Goals as goal

pub returns-clause-entered : goal.returns-clause-entered
returns-clause-entered g c =
    let desc = as_described c.args.self.now.desc in
    let o = c.args.self.now.over in
    subst (λ (r : Result Put BlockFault). IfOk r (Enters (store_seen desc c.args.self.now.found o).db (store_seen desc c.note.new.found c.enter-entered.new.over).db desc c.args.subset c.args.owner c.args.number)) (sym c.note.ensures.same)
    (IfOk-weaker c.enter-entered.result _ _ (λ x h. enters_as (store_seen desc c.args.self.now.found o).db (store_seen desc c.note.new.found c.enter-entered.new.over).db desc c.args.subset c.args.owner c.args.number x h) (tells_after desc (λ d. 2) c.args.self.now.found c.note.new.found o c.enter-entered.new.over (λ db. MayEnter desc db c.args.subset c.args.owner c.args.number) (λ db. enter_answer desc db c.args.subset c.args.owner c.args.number) (db_entered desc c.args.subset c.args.owner c.args.number) c.enter-entered.result c.enter-entered.ensures.enters.relates.on.hands.hands.alters.passes.lasts.told c.enter-entered.ensures.enters.relates.leaves))

pub returns-clause-stands : goal.returns-clause-stands
returns-clause-stands g c =
    let desc = as_described c.args.self.now.desc in
    let o = c.args.self.now.over in
    subst (λ (r : Result Put BlockFault). FullWhereEntered (store_seen desc c.args.self.now.found o).db desc c.args.subset c.args.owner c.args.number r) (sym c.note.ensures.same)
    (full_entered (store_seen desc c.args.self.now.found o).db desc c.args.subset c.args.owner c.args.number c.enter-entered.result (full_after desc (λ d. 2) c.args.self.now.found c.note.new.found o c.enter-entered.new.over (λ db. MayEnter desc db c.args.subset c.args.owner c.args.number) (λ db. IsStored (enter_answer desc db c.args.subset c.args.owner c.args.number)) c.enter-entered.result c.enter-entered.ensures.enters.relates.full))

pub returns-clause-full : goal.returns-clause-full
returns-clause-full g c = subst (λ (r : Result Put BlockFault). IfFull r (λ f. f ≡ (g.B.Blocks.pace c.args.self.now.over.below).last)) (sym c.note.ensures.same) c.enter-entered.ensures.enters.relates.on.full

pub returns-clause-changed : goal.returns-clause-changed
returns-clause-changed g c =
    let desc = as_described c.args.self.now.desc in
    let o = c.args.self.now.over in
    subst (λ (r : Result Put BlockFault). Changes r (store_seen desc c.args.self.now.found o) (store_seen desc c.note.new.found c.enter-entered.new.over)) (sym c.note.ensures.same)
    (changes_on desc (λ d. 2) c.args.self.now.found c.note.new.found o c.enter-entered.new.over c.enter-entered.result c.note.ensures.small c.note.ensures.noted c.requires.sound (g.met.B.Blocks.agrees o.below c.requires.sound.sound) g.met.B.Blocks.same_pace c.enter-entered.ensures.none c.enter-entered.ensures.enters.relates.on)

pub returns-clause-spends : goal.returns-clause-spends
returns-clause-spends g c =
    let desc = as_described c.args.self.now.desc in
    let o = c.args.self.now.over in
    spends_on desc (λ d. 2) c.args.self.now.found c.note.new.found o c.enter-entered.new.over c.enter-entered.result c.requires.sound.none c.enter-entered.ensures.enters.relates.on

pub returns-clause-same : goal.returns-clause-same
returns-clause-same g c = c.enter-entered.ensures.enters.relates.on.hands.hands.same

pub invariant_of-self : goal.invariant_of-self
invariant_of-self g c =
    let lasts = c.enter-entered.ensures.enters.relates.on.hands.hands.alters.passes.lasts in
    record {
      taken = related_known (as_described c.args.self.now.desc) c.args.self.now.known.counts c.keep.new.self.counts (under c.args.self.now.over) (under c.enter-entered.new.over) c.enter-entered.result lasts c.keep.ensures.counts c.enter-entered.ensures.enters.taken c.args.self.now.taken;
      marked = unbroken_mark (as_described c.args.self.now.desc) c.args.self.now.known.marked c.keep.new.self.marked (under c.args.self.now.over) (under c.enter-entered.new.over) lasts c.enter-entered.result c.keep.ensures.marked c.enter-entered.ensures.enters.relates.on.hands.hands.alters.stays c.args.self.now.marked;
    }
