use Rattle.std.proofs.Common.{Bor, ◌≡◌, ◌∙◌, IfSome, Option, Some, true, ap, subst, sym}
use Rattle.std.specs.Option.{option_copied, option_map}
use Rattle.dms_desc.specs.Lookups.{structure_of}
use Rattle.dms_desc.specs.Shape.{as_described, shape_of}
use Rattle.dms_desc.specs.declared.structure.Structure.{Structure}
use Rattle.dms_layout.specs.Slots.{SlotFits}
use Rattle.dms_layout.specs.declared.slot.Slot.{Slot}
use Rattle.dms_model.specs.Valid.{is_data_set}
use Rattle.dms_slots.specs.SlotBlocks.{slot_opt}
use Rattle.dms_spelling.specs.ServingLaws.{served_at}
use Rattle.dms_entries.specs.Records.{reads_free, reads_off, reads_used}
use Rattle.dms_entries.proofs.record.record_at.Goals as goal

pub returns-then-not-is_number : goal.returns-then-not-is_number
returns-then-not-is_number g c =
    let desc = as_described c.args.desc.now in
    let s = shape_of c.in-Some.s.now in
    let at : structure_of desc c.args.set ≡ Some s = sym c.structure.ensures ∙ ap (λ (o : Option (Bor Structure)). option_map shape_of (option_copied o)) c.in-Some.is in
    let is_set : is_data_set (Some s) ≡ true = sym (ap is_data_set at) ∙ c.requires.set in
    reads_off desc c.args.set c.args.number s at is_set c.args.over.now c.requires.ready g.met.B.Blocks.same_again (sym c.is_number.ensures ∙ c.if-not-is_number.true)

pub read_slot-requires-clause-few : goal.read_slot-requires-clause-few
read_slot-requires-clause-few g c =
    let desc = as_described c.args.desc.now in
    let s = shape_of c.in-Some.s.now in
    let at : structure_of desc c.args.set ≡ Some s = sym c.structure.ensures ∙ ap (λ (o : Option (Bor Structure)). option_map shape_of (option_copied o)) c.in-Some.is in
    (served_at desc c.args.set s c.requires.ready.served at).few

pub read_slot-requires-clause-fits : goal.read_slot-requires-clause-fits
read_slot-requires-clause-fits g c =
    let desc = as_described c.args.desc.now in
    let s = shape_of c.in-Some.s.now in
    let at : structure_of desc c.args.set ≡ Some s = sym c.structure.ensures ∙ ap (λ (o : Option (Bor Structure)). option_map shape_of (option_copied o)) c.in-Some.is in
    (served_at desc c.args.set s c.requires.ready.served at).fits

pub returns-in-Ok-None : goal.returns-in-Ok-None
returns-in-Ok-None g c =
    let desc = as_described c.args.desc.now in
    let s = shape_of c.in-Some.s.now in
    let at : structure_of desc c.args.set ≡ Some s = sym c.structure.ensures ∙ ap (λ (o : Option (Bor Structure)). option_map shape_of (option_copied o)) c.in-Some.is in
    let is_set : is_data_set (Some s) ≡ true = sym (ap is_data_set at) ∙ c.requires.set in
    reads_free desc c.args.set c.args.number s at is_set c.args.over.now c.requires.ready (sym c.is_number.ensures ∙ c.if-not-is_number.false) c.read_slot.new.b
    (rw c.in-Ok-None.field-0-is at c.in-Ok-None.ensures.reads) c.in-Ok-None.ensures.causes (λ told. c.in-Ok-None.ensures.slot told ∙ ap slot_opt c.in-Ok-None.field-0-is)

pub returns-in-Ok-Some : goal.returns-in-Ok-Some
returns-in-Ok-Some g c =
    let desc = as_described c.args.desc.now in
    let s = shape_of c.in-Some.s.now in
    let at : structure_of desc c.args.set ≡ Some s = sym c.structure.ensures ∙ ap (λ (o : Option (Bor Structure)). option_map shape_of (option_copied o)) c.in-Some.is in
    let is_set : is_data_set (Some s) ≡ true = sym (ap is_data_set at) ∙ c.requires.set in
    let fits = subst (λ (o : Option Slot). IfSome o (SlotFits s)) c.in-Ok-Some.field-0-is c.in-Ok-Some.ensures.fits in
    reads_used desc c.args.set c.args.number s at is_set c.args.over.now c.requires.ready (sym c.is_number.ensures ∙ c.if-not-is_number.false) c.read_slot.new.b c.in-Ok-Some.slot
    (rw c.in-Ok-Some.field-0-is at c.in-Ok-Some.ensures.reads) c.in-Ok-Some.ensures.causes (λ told. c.in-Ok-Some.ensures.slot told ∙ ap slot_opt c.in-Ok-Some.field-0-is) fits
