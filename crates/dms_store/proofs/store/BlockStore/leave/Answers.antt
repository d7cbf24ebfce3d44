use Rattle.std.proofs.Common.{◌≡◌, Bool, true, IfOk, subst, sym}
use Rattle.std.specs.declared.result.Result.{Result}
use Rattle.std.proofs.lemmas.Result.{IfOk-weaker}
use Rattle.dms_block.specs.declared.block_fault.BlockFault.{BlockFault}
use Rattle.dms_block.specs.Faults.{IfFull}
use Rattle.dms_block.specs.View.{under}
use Rattle.dms_desc.specs.Shape.{as_described}
use Rattle.dms_model.specs.Changing.{FullWhereLeft, Leaves, MayEnter}
use Rattle.dms_model.specs.Uses.{after_leave, has_entry}
use Rattle.dms_store.specs.RelatingLaws.{changes_on, full_after, full_left, leaves_as, related_known, spends_on, tells_after}
use Rattle.dms_store.specs.Lifted.{store_seen}
use Rattle.dms_store.specs.PuttingStore.{Changes}
use Rattle.dms_store.specs.TakenLaws.{unbroken_mark}
use Rattle.dms_store.proofs.store.BlockStore.leave.Goals as goal

pub returns-clause-left : goal.returns-clause-left
returns-clause-left g c =
    let desc = as_described c.args.self.now.desc in
    let o = c.args.self.now.over in
    subst (λ (r : Result Bool BlockFault). IfOk r (Leaves (store_seen desc c.args.self.now.found o).db (store_seen desc c.note.new.found c.leave-left.new.over).db desc c.args.subset c.args.owner c.args.number)) (sym c.note.ensures.same)
    (IfOk-weaker c.leave-left.result _ _ (λ x h. leaves_as (store_seen desc c.args.self.now.found o).db (store_seen desc c.note.new.found c.leave-left.new.over).db desc c.args.subset c.args.owner c.args.number x h) (tells_after desc (λ d. 2) c.args.self.now.found c.note.new.found o c.leave-left.new.over (λ db. MayEnter desc db c.args.subset c.args.owner c.args.number) (λ db. has_entry db c.args.subset c.args.owner c.args.number) (λ db. after_leave db c.args.subset c.args.owner c.args.number) c.leave-left.result c.leave-left.ensures.leaves.relates.on.hands.hands.alters.passes.lasts.told c.leave-left.ensures.leaves.relates.leaves))

pub returns-clause-stands : goal.returns-clause-stands
returns-clause-stands g c =
    let desc = as_described c.args.self.now.desc in
    let o = c.args.self.now.over in
    subst (λ (r : Result Bool BlockFault). FullWhereLeft (store_seen desc c.args.self.now.found o).db desc c.args.subset c.args.owner c.args.number r) (sym c.note.ensures.same)
    (full_left (store_seen desc c.args.self.now.found o).db desc c.args.subset c.args.owner c.args.number c.leave-left.result (full_after desc (λ d. 2) c.args.self.now.found c.note.new.found o c.leave-left.new.over (λ db. MayEnter desc db c.args.subset c.args.owner c.args.number) (λ db. has_entry db c.args.subset c.args.owner c.args.number ≡ true) c.leave-left.result c.leave-left.ensures.leaves.relates.full))

pub returns-clause-full : goal.returns-clause-full
returns-clause-full g c = subst (λ (r : Result Bool BlockFault). IfFull r (λ f. f ≡ (g.B.Blocks.pace c.args.self.now.over.below).last)) (sym c.note.ensures.same) c.leave-left.ensures.leaves.relates.on.full

pub returns-clause-changed : goal.returns-clause-changed
returns-clause-changed g c =
    let desc = as_described c.args.self.now.desc in
    let o = c.args.self.now.over in
    subst (λ (r : Result Bool BlockFault). Changes r (store_seen desc c.args.self.now.found o) (store_seen desc c.note.new.found c.leave-left.new.over)) (sym c.note.ensures.same)
    (changes_on desc (λ d. 2) c.args.self.now.found c.note.new.found o c.leave-left.new.over c.leave-left.result c.note.ensures.small c.note.ensures.noted c.requires.sound (g.met.B.Blocks.agrees o.below c.requires.sound.sound) g.met.B.Blocks.same_pace c.leave-left.ensures.none c.leave-left.ensures.leaves.relates.on)

pub returns-clause-spends : goal.returns-clause-spends
returns-clause-spends g c =
    let desc = as_described c.args.self.now.desc in
    let o = c.args.self.now.over in
    spends_on desc (λ d. 2) c.args.self.now.found c.note.new.found o c.leave-left.new.over c.leave-left.result c.requires.sound.none c.leave-left.ensures.leaves.relates.on

pub returns-clause-same : goal.returns-clause-same
returns-clause-same g c = c.leave-left.ensures.leaves.relates.on.hands.hands.same

pub invariant_of-self : goal.invariant_of-self
invariant_of-self g c =
    let lasts = c.leave-left.ensures.leaves.relates.on.hands.hands.alters.passes.lasts in
    record {
      taken = related_known (as_described c.args.self.now.desc) c.args.self.now.known.counts c.keep.new.self.counts (under c.args.self.now.over) (under c.leave-left.new.over) c.leave-left.result lasts c.keep.ensures.counts c.leave-left.ensures.leaves.taken c.args.self.now.taken;
      marked = unbroken_mark (as_described c.args.self.now.desc) c.args.self.now.known.marked c.keep.new.self.marked (under c.args.self.now.over) (under c.leave-left.new.over) lasts c.leave-left.result c.keep.ensures.marked c.leave-left.ensures.leaves.relates.on.hands.hands.alters.stays c.args.self.now.marked;
    }
