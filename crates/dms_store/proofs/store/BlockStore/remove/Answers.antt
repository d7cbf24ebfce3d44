use Rattle.std.proofs.Common.{◌≡◌, Bool, true, false, IfOk, subst, sym, arith}
use Rattle.std.specs.Prelude.{nat_le, not}
use Rattle.std.specs.declared.result.Result.{Result}
use Rattle.std.proofs.lemmas.Result.{IfOk-weaker}
use Rattle.dms_block.specs.declared.block_fault.BlockFault.{BlockFault}
use Rattle.dms_block.specs.Faults.{IfFull}
use Rattle.dms_block.specs.View.{under}
use Rattle.dms_desc.specs.Shape.{as_described}
use Rattle.std.proofs.Common.{◌≤◌, ℕ}
use Rattle.std.specs.declared.option.Option.{Option}
use Rattle.std.proofs.lemmas.Bool.{and_parts}
use Rattle.std.proofs.lemmas.Bool.Decides.{nat_tests}
use Rattle.dms_desc.specs.Lookups.{structure_of}
use Rattle.dms_desc.specs.Shape.{Shape}
use Rattle.dms_model.specs.Changing.{FullWhereRemoved, Removes, removal_count}
use Rattle.dms_model.specs.Fitting.{HasRecord, is_number, population_of}
use Rattle.dms_model.specs.Uses.{in_use}
use Rattle.dms_store.specs.Relating.{db_removed}
use Rattle.dms_store.specs.RelatingLaws.{changes_on, full_after, full_removed, removed_known, removes_as, spends_on, tells_after}
use Rattle.dms_store.specs.Lifted.{store_seen}
use Rattle.dms_store.specs.PuttingStore.{Changes}
use Rattle.dms_store.specs.TakenLaws.{unbroken_mark}
use Rattle.dms_store.proofs.store.BlockStore.remove.Goals as goal

low_of : (o : Option Shape) (n : ℕ) → is_number o n ≡ true → 1 ≤ n
low_of o n h = let low = (and_parts (nat_le 1 n) (nat_le n (population_of o)) h).0 in grind (arith, nat_tests, low)

pub returns-clause-removed : goal.returns-clause-removed
returns-clause-removed g c =
    let desc = as_described c.args.self.now.desc in
    let o = c.args.self.now.over in
    subst (λ (r : Result Bool BlockFault). IfOk r (Removes (store_seen desc c.args.self.now.found o).db (store_seen desc c.note.new.found c.remove-removed.new.over).db desc c.args.set c.args.number)) (sym c.note.ensures.same)
    (IfOk-weaker c.remove-removed.result _ _ (λ x h. removes_as (store_seen desc c.args.self.now.found o).db (store_seen desc c.note.new.found c.remove-removed.new.over).db desc c.args.set c.args.number x h) (tells_after desc (removal_count desc c.args.set c.args.number) c.args.self.now.found c.note.new.found o c.remove-removed.new.over (λ db. HasRecord db c.args.set c.args.number) (λ db. not (in_use desc db c.args.set c.args.number)) (db_removed desc c.args.set c.args.number) c.remove-removed.result c.remove-removed.ensures.removes.relates.on.hands.hands.alters.passes.lasts.told c.remove-removed.ensures.removes.relates.leaves))

pub returns-clause-stands : goal.returns-clause-stands
returns-clause-stands g c =
    let desc = as_described c.args.self.now.desc in
    let o = c.args.self.now.over in
    subst (λ (r : Result Bool BlockFault). FullWhereRemoved (store_seen desc c.args.self.now.found o).db desc c.args.set c.args.number r) (sym c.note.ensures.same)
    (full_removed (store_seen desc c.args.self.now.found o).db desc c.args.set c.args.number c.remove-removed.result (full_after desc (removal_count desc c.args.set c.args.number) c.args.self.now.found c.note.new.found o c.remove-removed.new.over (λ db. HasRecord db c.args.set c.args.number) (λ db. in_use desc db c.args.set c.args.number ≡ false) c.remove-removed.result c.remove-removed.ensures.removes.relates.full))

pub returns-clause-full : goal.returns-clause-full
returns-clause-full g c = subst (λ (r : Result Bool BlockFault). IfFull r (λ f. f ≡ (g.B.Blocks.pace c.args.self.now.over.below).last)) (sym c.note.ensures.same) c.remove-removed.ensures.removes.relates.on.full

pub returns-clause-changed : goal.returns-clause-changed
returns-clause-changed g c =
    let desc = as_described c.args.self.now.desc in
    let o = c.args.self.now.over in
    subst (λ (r : Result Bool BlockFault). Changes r (store_seen desc c.args.self.now.found o) (store_seen desc c.note.new.found c.remove-removed.new.over)) (sym c.note.ensures.same)
    (changes_on desc (removal_count desc c.args.set c.args.number) c.args.self.now.found c.note.new.found o c.remove-removed.new.over c.remove-removed.result c.note.ensures.small c.note.ensures.noted c.requires.sound (g.met.B.Blocks.agrees o.below c.requires.sound.sound) g.met.B.Blocks.same_pace c.remove-removed.ensures.none c.remove-removed.ensures.removes.relates.on)

pub returns-clause-spends : goal.returns-clause-spends
returns-clause-spends g c =
    let desc = as_described c.args.self.now.desc in
    let o = c.args.self.now.over in
    spends_on desc (removal_count desc c.args.set c.args.number) c.args.self.now.found c.note.new.found o c.remove-removed.new.over c.remove-removed.result c.requires.sound.none c.remove-removed.ensures.removes.relates.on

pub returns-clause-same : goal.returns-clause-same
returns-clause-same g c = c.remove-removed.ensures.removes.relates.on.hands.hands.same

pub invariant_of-self : goal.invariant_of-self
invariant_of-self g c =
    let lasts = c.remove-removed.ensures.removes.relates.on.hands.hands.alters.passes.lasts in
    record {
      taken = removed_known (as_described c.args.self.now.desc) c.args.self.now.known.counts c.note_gone.new.self.counts (under c.args.self.now.over) (under c.remove-removed.new.over) c.args.set c.args.number c.remove-removed.result lasts (low_of (structure_of (as_described c.args.self.now.desc) c.args.set) c.args.number c.requires.number) c.note_gone.ensures.counts c.remove-removed.ensures.removes.taken c.args.self.now.taken;
      marked = unbroken_mark (as_described c.args.self.now.desc) c.args.self.now.known.marked c.note_gone.new.self.marked (under c.args.self.now.over) (under c.remove-removed.new.over) lasts c.remove-removed.result c.note_gone.ensures.marked c.remove-removed.ensures.removes.relates.on.hands.hands.alters.stays c.args.self.now.marked;
    }
