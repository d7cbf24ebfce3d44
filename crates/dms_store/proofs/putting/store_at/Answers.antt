use Rattle.std.proofs.Common.{Bor, ◌≡◌, ◌∙◌, ◌+◌, ◌≤◌, Option, IfSome, Some, ap, subst, sym, arith}
use Rattle.std.proofs.lemmas.Result.{IfOk-weaker}
use Rattle.dms_block.specs.View.{overlay_content}
use Rattle.dms_desc.specs.declared.record.Record.{Record}
use Rattle.std.specs.Option.{option_copied}
use Rattle.std.specs.declared.option.Option.TheVariants.{None}
use Rattle.dms_desc.specs.Shape.{as_described, shape_of}
use Rattle.dms_layout.specs.Slots.{SlotFits}
use Rattle.dms_layout.specs.declared.slot.Slot.{Slot}
use Rattle.dms_slots.specs.SlotBlocks.{slot_opt}
use Rattle.dms_store.specs.Finding.{slot_record}
use Rattle.dms_store.specs.PuttingAfter.{slot_links}
use Rattle.dms_store.specs.Addressed.{FewFound, FewPlaced, list_blocks}
use Rattle.dms_store.specs.PuttingCalls.{few_weaker}
use Rattle.dms_store.specs.PuttingEnters.{IsEntered}
use Rattle.dms_store.specs.PuttingPlaced.{after_fits, entered_old, places_slot}
use Rattle.dms_links.specs.Rows.{rec_opt}
use Rattle.dms_store.proofs.putting.store_at.Goals as goal

pub write_new-requires-clause-new : goal.write_new-requires-clause-new
write_new-requires-clause-new g c =
    let s = shape_of c.args.at.now.set.now in
    after_fits (as_described c.args.at.now.desc.now) s.number s (option_copied c.args.old) c.args.rec.now c.in_ok-slot.slot c.requires.place.there c.requires.old c.requires.new c.in_ok-slot.ensures

pub returns-in-None-clause-below : goal.returns-in-None-clause-below
returns-in-None-clause-below g c db found =
    let s = shape_of c.args.at.now.set.now in
    c.write_new.ensures.below db (option_copied c.args.old) c.args.rec.now
    (places_slot (as_described c.args.at.now.desc.now) db s c.args.at.now.number (option_copied c.args.old) c.args.rec.now None c.in_ok-slot.slot c.args.over.now found c.requires.place.there c.requires.old c.requires.new
    (ap (λ (x : Option (Bor Slot)). rec_opt (slot_opt (option_copied x))) c.in-None.is) c.in_ok-slot.ensures)

pub write_at-requires-clause-old : goal.write_at-requires-clause-old
write_at-requires-clause-old g c =
    let s = shape_of c.args.at.now.set.now in
    slot_record (as_described c.args.at.now.desc.now) s.number s c.in-Some.old.now c.requires.place.there (subst (λ (x : Option (Bor Slot)). IfSome (option_copied x) (SlotFits s)) c.in-Some.is c.requires.old)

pub write_at-requires-clause-new : goal.write_at-requires-clause-new
write_at-requires-clause-new g c =
    let s = shape_of c.args.at.now.set.now in
    after_fits (as_described c.args.at.now.desc.now) s.number s (option_copied c.args.old) c.args.rec.now c.in_ok-slot.slot c.requires.place.there c.requires.old c.requires.new c.in_ok-slot.ensures

pub returns-clause-below : goal.returns-clause-below
returns-clause-below g c db found =
    let s = shape_of c.args.at.now.set.now in
    c.write_at.ensures.below db (option_copied c.args.old) c.args.rec.now
    (places_slot (as_described c.args.at.now.desc.now) db s c.args.at.now.number (option_copied c.args.old) c.args.rec.now (Some c.in-Some.old.now.rec) c.in_ok-slot.slot c.args.over.now found c.requires.place.there c.requires.old c.requires.new
    (ap (λ (x : Option (Bor Slot)). rec_opt (slot_opt (option_copied x))) c.in-Some.is) c.in_ok-slot.ensures)

pub returns-in-None-clause-entered : goal.returns-in-None-clause-entered
returns-in-None-clause-entered g c =
    IfOk-weaker c.write_new.result _ _ (λ p h db found owner.
    let desc = as_described c.args.at.now.desc.now in
    let s = shape_of c.args.at.now.set.now in
    let o = option_copied c.args.old in
    let rec_is = ap (λ (x : Slot). x.rec) c.in_ok-slot.ensures ∙ slot_links s.items o c.args.rec.now in
    subst (λ (r : Record). IsEntered desc db s.number c.args.at.now.number r (overlay_content c.write_new.new.over) p) rec_is
    (h db o c.args.rec.now
    (places_slot desc db s c.args.at.now.number o c.args.rec.now None c.in_ok-slot.slot c.args.over.now found c.requires.place.there c.requires.old c.requires.new
    (ap (λ (x : Option (Bor Slot)). rec_opt (slot_opt (option_copied x))) c.in-None.is) c.in_ok-slot.ensures) owner)) c.write_new.ensures.entered

pub returns-in-None-clause-enters : goal.returns-in-None-clause-enters
returns-in-None-clause-enters g c =
    let s = shape_of c.args.at.now.set.now in
    let o = option_copied c.args.old in
    let is : rec_opt (slot_opt o) ≡ None = ap (λ (x : Option (Bor Slot)). rec_opt (slot_opt (option_copied x))) c.in-None.is in
    few_weaker (FewPlaced c.args.at.now None c.in_ok-slot.slot 2 c.args.over.now) (FewFound c.args.at.now o c.args.over.now) c.write_new.result c.args.over.now c.write_new.new.over
    (λ n low db found.
    let le = low db o c.args.rec.now (places_slot (as_described c.args.at.now.desc.now) db s c.args.at.now.number o c.args.rec.now None c.in_ok-slot.slot c.args.over.now found c.requires.place.there c.requires.old c.requires.new is c.in_ok-slot.ensures) in
    subst (λ (x : Option Record). n ≤ list_blocks c.args.at.now x db + 2) (sym is) le) c.write_new.ensures.enters

pub returns-clause-enters : goal.returns-clause-enters
returns-clause-enters g c =
    let s = shape_of c.args.at.now.set.now in
    let o = option_copied c.args.old in
    let is : rec_opt (slot_opt o) ≡ Some c.in-Some.old.now.rec = ap (λ (x : Option (Bor Slot)). rec_opt (slot_opt (option_copied x))) c.in-Some.is in
    few_weaker (FewPlaced c.args.at.now (Some c.in-Some.old.now.rec) c.in_ok-slot.slot 1 c.args.over.now) (FewFound c.args.at.now o c.args.over.now) c.write_at.result c.args.over.now c.write_at.new.over
    (λ n low db found.
    let le = low db o c.args.rec.now (places_slot (as_described c.args.at.now.desc.now) db s c.args.at.now.number o c.args.rec.now (Some c.in-Some.old.now.rec) c.in_ok-slot.slot c.args.over.now found c.requires.place.there c.requires.old c.requires.new is c.in_ok-slot.ensures) in
    subst (λ (x : Option Record). n ≤ list_blocks c.args.at.now x db + 2) (sym is) (omega (arith, le))) c.write_at.ensures.enters

pub returns-clause-entered : goal.returns-clause-entered
returns-clause-entered g c =
    IfOk-weaker c.write_at.result _ _ (λ p h db found owner.
    let desc = as_described c.args.at.now.desc.now in
    let s = shape_of c.args.at.now.set.now in
    let o = option_copied c.args.old in
    let a = c.args.over.now in
    let agrees = g.met.B.Blocks.agrees a.below c.requires.place.usable.sound in
    let fits = after_fits desc s.number s o c.args.rec.now c.in_ok-slot.slot c.requires.place.there c.requires.old c.requires.new c.in_ok-slot.ensures in
    let rec_is = ap (λ (x : Slot). x.rec) c.in_ok-slot.ensures ∙ slot_links s.items o c.args.rec.now in
    let place = places_slot desc db s c.args.at.now.number o c.args.rec.now (Some c.in-Some.old.now.rec) c.in_ok-slot.slot a found c.requires.place.there c.requires.old c.requires.new
    (ap (λ (x : Option (Bor Slot)). rec_opt (slot_opt (option_copied x))) c.in-Some.is) c.in_ok-slot.ensures in
    subst (λ (r : Record). IsEntered desc db s.number c.args.at.now.number r (overlay_content c.write_at.new.over) p) rec_is
    (entered_old desc a c.requires.place.usable agrees s c.args.at.now.number c.requires.place.there c.requires.place.set c.requires.place.low c.requires.place.most c.in_ok-slot.slot fits (Some c.in-Some.old.now.rec) db o c.args.rec.now place
    c.in-Some.old.now (ap (λ (x : Option (Bor Slot)). option_copied x) c.in-Some.is) (overlay_content c.write_at.new.over) p (h db o c.args.rec.now place owner))) c.write_at.ensures.entered
