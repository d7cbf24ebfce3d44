use Rattle.std.proofs.Common.{◌≡◌, IfOk, subst, sym}
use Rattle.std.specs.Prelude.{OnOk}
use Rattle.std.specs.declared.result.Result.{Result}
use Rattle.std.specs.declared.result.Result.TheVariants.{Ok, Err}
use Rattle.std.proofs.lemmas.Result.{IfOk-weaker}
use Rattle.dms_block.specs.declared.block_fault.BlockFault.{BlockFault}
use Rattle.dms_block.specs.Faults.{IfFull}
use Rattle.dms_block.specs.View.{under}
use Rattle.dms_desc.specs.Shape.{as_described}
use Rattle.dms_model.specs.Changing.{Links}
use Rattle.dms_model.specs.Uses.{after_link}
use Rattle.dms_store.specs.Relating.{MayBeLinked}
use Rattle.dms_store.specs.RelatingLaws.{changes_on, links_as, related_known, spends_on, tells_after}
use Rattle.dms_store.specs.Lifted.{store_seen}
use Rattle.dms_store.specs.PuttingStore.{Changes}
use Rattle.dms_store.specs.TakenLaws.{unbroken_mark}
use Rattle.dms_store.proofs.store.BlockStore.link.Goals as goal

on_ok : (r : Result (Unit {0}) BlockFault) (P : Type 0) → IfOk r (λ x. P) → OnOk r P
on_ok (Ok x) P h = h
on_ok (Err e) P h = h

pub returns-clause-linked : goal.returns-clause-linked
returns-clause-linked g c =
    let desc = as_described c.args.self.now.desc in
    let o = c.args.self.now.over in
    subst (λ (r : Result (Unit {0}) BlockFault). OnOk r (Links (store_seen desc c.args.self.now.found o).db (store_seen desc c.note.new.found c.link-linked.new.over).db desc c.args.set c.args.number c.args.item c.args.to)) (sym c.note.ensures.same)
    (on_ok c.link-linked.result _ (IfOk-weaker c.link-linked.result _ _ (λ x h. links_as (store_seen desc c.args.self.now.found o).db (store_seen desc c.note.new.found c.link-linked.new.over).db desc c.args.set c.args.number c.args.item c.args.to x h) (tells_after desc (λ d. 3) c.args.self.now.found c.note.new.found o c.link-linked.new.over (MayBeLinked desc c.args.set c.args.number c.args.item c.args.to) (λ db. tt) (λ db. after_link db c.args.set c.args.number c.args.item c.args.to) c.link-linked.result c.link-linked.ensures.links.relates.on.hands.hands.alters.passes.lasts.told c.link-linked.ensures.links.relates.leaves)))

pub returns-clause-full : goal.returns-clause-full
returns-clause-full g c = subst (λ (r : Result (Unit {0}) BlockFault). IfFull r (λ f. f ≡ (g.B.Blocks.pace c.args.self.now.over.below).last)) (sym c.note.ensures.same) c.link-linked.ensures.links.relates.on.full

pub returns-clause-changed : goal.returns-clause-changed
returns-clause-changed g c =
    let desc = as_described c.args.self.now.desc in
    let o = c.args.self.now.over in
    subst (λ (r : Result (Unit {0}) BlockFault). Changes r (store_seen desc c.args.self.now.found o) (store_seen desc c.note.new.found c.link-linked.new.over)) (sym c.note.ensures.same)
    (changes_on desc (λ d. 3) c.args.self.now.found c.note.new.found o c.link-linked.new.over c.link-linked.result c.note.ensures.small c.note.ensures.noted c.requires.sound (g.met.B.Blocks.agrees o.below c.requires.sound.sound) g.met.B.Blocks.same_pace c.link-linked.ensures.none c.link-linked.ensures.links.relates.on)

pub returns-clause-spends : goal.returns-clause-spends
returns-clause-spends g c =
    let desc = as_described c.args.self.now.desc in
    let o = c.args.self.now.over in
    spends_on desc (λ d. 3) c.args.self.now.found c.note.new.found o c.link-linked.new.over c.link-linked.result c.requires.sound.none c.link-linked.ensures.links.relates.on

pub returns-clause-same : goal.returns-clause-same
returns-clause-same g c = c.link-linked.ensures.links.relates.on.hands.hands.same

pub invariant_of-self : goal.invariant_of-self
invariant_of-self g c =
    let lasts = c.link-linked.ensures.links.relates.on.hands.hands.alters.passes.lasts in
    record {
      taken = related_known (as_described c.args.self.now.desc) c.args.self.now.known.counts c.keep.new.self.counts (under c.args.self.now.over) (under c.link-linked.new.over) c.link-linked.result lasts c.keep.ensures.counts c.link-linked.ensures.links.taken c.args.self.now.taken;
      marked = unbroken_mark (as_described c.args.self.now.desc) c.args.self.now.known.marked c.keep.new.self.marked (under c.args.self.now.over) (under c.link-linked.new.over) lasts c.link-linked.result c.keep.ensures.marked c.link-linked.ensures.links.relates.on.hands.hands.alters.stays c.args.self.now.marked;
    }
