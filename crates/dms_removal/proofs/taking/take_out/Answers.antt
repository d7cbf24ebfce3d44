use Rattle.std.proofs.Common.{Bor, ◌≡◌, ◌∙◌, ◌<◌, ℕ, Option, IfSome, None, Some, sym, ap, subst}
use Rattle.std.specs.Option.{option_copied, option_map}
use Rattle.dms_desc.specs.Lookups.{items_of, structure_of}
use Rattle.dms_desc.specs.Shape.{Shape, as_described, shape_of}
use Rattle.dms_desc.specs.declared.structure.Structure.{Structure}
use Rattle.dms_layout.specs.Slots.{SlotFits}
use Rattle.dms_layout.specs.declared.slot.Slot.{Slot}
use Rattle.dms_links.specs.AlteringIn.{slot_low}
use Rattle.dms_links.specs.Linking.{number_at}
use Rattle.dms_model.specs.FitLaws.{are_fitting}
use Rattle.dms_model.specs.Fitting.{AreFitting}
use Rattle.dms_slots.specs.Seen.{count_of}
use Rattle.dms_slots.specs.SlotBlocks.{block_of, slot_opt}
use Rattle.dms_spelling.specs.Ready.{ready_since}
use Rattle.dms_spelling.specs.ServingLaws.{served_at}
use Rattle.dms_removal.specs.Taking.{TakesRecord, counts_since, out_failed, out_free, out_none, out_off, out_taken, used_since}
use Rattle.dms_removal.proofs.taking.take_out.Goals as goal

pub returns-in-None : goal.returns-in-None
returns-in-None g c =
    let desc = as_described c.args.desc.now in
    let off : structure_of desc c.args.set ≡ None = sym c.structure.ensures ∙ ap (λ (o : Option (Bor Structure)). option_map shape_of (option_copied o)) c.in-None.is in
    out_none desc c.args.set c.args.number c.args.over.now c.requires.ready g.met.B.Blocks.same_again off

pub returns-then-not-is_slot : goal.returns-then-not-is_slot
returns-then-not-is_slot g c =
    let desc = as_described c.args.desc.now in
    let s = shape_of c.in-Some.s.now in
    let at : structure_of desc c.args.set ≡ Some s = sym c.structure.ensures ∙ ap (λ (o : Option (Bor Structure)). option_map shape_of (option_copied o)) c.in-Some.is in
    out_off desc c.args.set c.args.number c.args.over.now c.requires.ready s at g.met.B.Blocks.same_again (sym c.is_slot.ensures ∙ c.if-not-is_slot.true)

pub read_slot-requires-clause-few : goal.read_slot-requires-clause-few
read_slot-requires-clause-few g c =
    let desc = as_described c.args.desc.now in
    let s = shape_of c.in-Some.s.now in
    let at : structure_of desc c.args.set ≡ Some s = sym c.structure.ensures ∙ ap (λ (o : Option (Bor Structure)). option_map shape_of (option_copied o)) c.in-Some.is in
    (served_at desc c.args.set s c.requires.ready.served at).few

pub read_slot-requires-clause-fits : goal.read_slot-requires-clause-fits
read_slot-requires-clause-fits g c =
    let desc = as_described c.args.desc.now in
    let s = shape_of c.in-Some.s.now in
    let at : structure_of desc c.args.set ≡ Some s = sym c.structure.ensures ∙ ap (λ (o : Option (Bor Structure)). option_map shape_of (option_copied o)) c.in-Some.is in
    (served_at desc c.args.set s c.requires.ready.served at).fits

pub read_slot-requires-clause-number : goal.read_slot-requires-clause-number
read_slot-requires-clause-number g c = slot_low (shape_of c.in-Some.s.now) c.args.number (sym c.is_slot.ensures ∙ c.if-not-is_slot.false)

pub take_at-requires-clause-ready : goal.take_at-requires-clause-ready
take_at-requires-clause-ready g c = ready_since (as_described c.args.desc.now) c.args.over.now c.read_slot.new.b c.in-Ok-Some.ensures.reads.looks c.requires.ready

pub take_at-requires-clause-at : goal.take_at-requires-clause-at
take_at-requires-clause-at g c =
    let desc = as_described c.args.desc.now in
    let s = shape_of c.in-Some.s.now in
    let at : structure_of desc c.args.set ≡ Some s = sym c.structure.ensures ∙ ap (λ (o : Option (Bor Structure)). option_map shape_of (option_copied o)) c.in-Some.is in
    ap (structure_of desc) (number_at desc c.requires.ready.served.numbered c.args.set s at) ∙ at

pub take_at-requires-clause-one : goal.take_at-requires-clause-one
take_at-requires-clause-one g c = sym c.is_slot.ensures ∙ c.if-not-is_slot.false

pub take_at-requires-clause-fits : goal.take_at-requires-clause-fits
take_at-requires-clause-fits g c =
    let desc = as_described c.args.desc.now in
    let s = shape_of c.in-Some.s.now in
    let at : structure_of desc c.args.set ≡ Some s = sym c.structure.ensures ∙ ap (λ (o : Option (Bor Structure)). option_map shape_of (option_copied o)) c.in-Some.is in
    let here = ap (structure_of desc) (number_at desc c.requires.ready.served.numbered c.args.set s at) ∙ at in
    let fits = subst (λ (o : Option Slot). IfSome o (SlotFits s)) c.in-Ok-Some.field-0-is c.in-Ok-Some.ensures.fits in
    record {
      owner = fits.owner;
      values = subst (λ (o : Option Shape). AreFitting (items_of o) c.in-Ok-Some.slot.rec.values) (sym here) (are_fitting s.items c.in-Ok-Some.slot.rec.values fits.plain fits.values);
    }

pub take_at-requires-clause-there : goal.take_at-requires-clause-there
take_at-requires-clause-there g c =
    let s = shape_of c.in-Some.s.now in
    let there = subst (λ (o : Option Slot). IfSome o (λ x. block_of s.items c.args.number < count_of s c.args.over.now)) c.in-Ok-Some.field-0-is c.in-Ok-Some.ensures.there in
    counts_since s (block_of s.items c.args.number) c.args.over.now c.read_slot.new.b c.in-Ok-Some.ensures.reads there

pub take_at-requires-clause-was : goal.take_at-requires-clause-was
take_at-requires-clause-was g c told =
    let s = shape_of c.in-Some.s.now in
    used_since s c.args.number c.in-Ok-Some.slot c.args.over.now c.read_slot.new.b c.in-Ok-Some.ensures.reads (λ t. c.in-Ok-Some.ensures.slot t ∙ ap slot_opt c.in-Ok-Some.field-0-is) told

pub returns-in-Err : goal.returns-in-Err
returns-in-Err g c =
    let desc = as_described c.args.desc.now in
    let s = shape_of c.in-Some.s.now in
    let at : structure_of desc c.args.set ≡ Some s = sym c.structure.ensures ∙ ap (λ (o : Option (Bor Structure)). option_map shape_of (option_copied o)) c.in-Some.is in
    out_failed desc c.args.set c.args.number c.args.over.now c.requires.ready s at (sym c.is_slot.ensures ∙ c.if-not-is_slot.false) c.in-Err.e c.read_slot.new.b c.in-Err.ensures.reads c.in-Err.ensures.causes

pub returns-in-Ok-None : goal.returns-in-Ok-None
returns-in-Ok-None g c =
    let desc = as_described c.args.desc.now in
    let s = shape_of c.in-Some.s.now in
    let at : structure_of desc c.args.set ≡ Some s = sym c.structure.ensures ∙ ap (λ (o : Option (Bor Structure)). option_map shape_of (option_copied o)) c.in-Some.is in
    out_free desc c.args.set c.args.number c.args.over.now c.requires.ready s at (sym c.is_slot.ensures ∙ c.if-not-is_slot.false) c.read_slot.new.b c.in-Ok-None.ensures.reads c.in-Ok-None.ensures.causes
    (λ told. c.in-Ok-None.ensures.slot told ∙ ap slot_opt c.in-Ok-None.field-0-is)

pub returns-in-Ok-Some : goal.returns-in-Ok-Some
returns-in-Ok-Some g c =
    let desc = as_described c.args.desc.now in
    let s = shape_of c.in-Some.s.now in
    let at : structure_of desc c.args.set ≡ Some s = sym c.structure.ensures ∙ ap (λ (o : Option (Bor Structure)). option_map shape_of (option_copied o)) c.in-Some.is in
    let number = number_at desc c.requires.ready.served.numbered c.args.set s at in
    out_taken desc c.args.set c.args.number c.args.over.now c.requires.ready s at (sym c.is_slot.ensures ∙ c.if-not-is_slot.false) c.read_slot.new.b c.in-Ok-Some.ensures.reads c.in-Ok-Some.ensures.causes c.take_at.result c.in-Ok-Some.slot c.take_at.new.over g.met.B.Blocks.same_then
    (λ told. c.in-Ok-Some.ensures.slot told ∙ ap slot_opt c.in-Ok-Some.field-0-is)
    (subst (λ (t : ℕ). TakesRecord desc t c.args.number c.in-Ok-Some.slot.rec c.take_at.result c.read_slot.new.b c.take_at.new.over) number c.take_at.ensures)
