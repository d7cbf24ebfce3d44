use Rattle.std.proofs.Common.{Bor, ◌≡◌, ◌∙◌, ap, subst, sym, IfSome, None, Option, Some}
use Rattle.std.specs.Option.{option_copied, option_map}
use Rattle.std.specs.FinMap.{get}
use Rattle.dms_block.specs.Content.{Content}
use Rattle.dms_block.specs.View.{overlay_content, under}
use Rattle.dms_desc.specs.Lookups.{structure_of}
use Rattle.dms_desc.specs.Shape.{as_described, shape_of}
use Rattle.dms_desc.specs.declared.record.Record.{Record}
use Rattle.dms_desc.specs.declared.structure.Structure.{Structure}
use Rattle.dms_layout.specs.declared.slot.Slot.{Slot}
use Rattle.dms_model.specs.Fitting.{RecordFits, is_number}
use Rattle.dms_chain.specs.SeenLaws.{causes_err}
use Rattle.dms_slots.specs.Seen.{BadAt}
use Rattle.dms_desc.specs.Files.{file_of}
use Rattle.dms_slots.specs.SlotBlocks.{block_of, slot_at}
use Rattle.dms_store.specs.Finding.{BadSlot, bad_slot, got, low_number, record_fits_opt, seen_below, set_if}
use Rattle.dms_spelling.specs.ServingLaws.{served_at}
use Rattle.dms_store.specs.Noted.{tells_if}
use Rattle.dms_store.specs.Undamaged.{not_set}
use Rattle.dms_store.proofs.Numbers.{no_record}
use Rattle.dms_store.proofs.getting.get.Goals as goal

pub returns-in-None-clause-found : goal.returns-in-None-clause-found
returns-in-None-clause-found g c =
    absurd (not_set (as_described c.args.desc.now) c.args.set (sym c.structure.ensures ∙ ap (λ (o : Option (Bor Structure)). option_map shape_of (option_copied o)) c.in-None.is) c.requires.set)

pub read_slot-requires-clause-few : goal.read_slot-requires-clause-few
read_slot-requires-clause-few g c =
    let at : structure_of (as_described c.args.desc.now) c.args.set ≡ Some (shape_of c.in-Some.s.now) = sym c.structure.ensures ∙ ap (λ (o : Option (Bor Structure)). option_map shape_of (option_copied o)) c.in-Some.is in
    (served_at (as_described c.args.desc.now) c.args.set (shape_of c.in-Some.s.now) c.requires.usable.serves.served at).few

pub read_slot-requires-clause-fits : goal.read_slot-requires-clause-fits
read_slot-requires-clause-fits g c =
    let at : structure_of (as_described c.args.desc.now) c.args.set ≡ Some (shape_of c.in-Some.s.now) = sym c.structure.ensures ∙ ap (λ (o : Option (Bor Structure)). option_map shape_of (option_copied o)) c.in-Some.is in
    (served_at (as_described c.args.desc.now) c.args.set (shape_of c.in-Some.s.now) c.requires.usable.serves.served at).fits

pub read_slot-requires-clause-number : goal.read_slot-requires-clause-number
read_slot-requires-clause-number g c =
    let at : structure_of (as_described c.args.desc.now) c.args.set ≡ Some (shape_of c.in-Some.s.now) = sym c.structure.ensures ∙ ap (λ (o : Option (Bor Structure)). option_map shape_of (option_copied o)) c.in-Some.is in
    low_number (as_described c.args.desc.now) c.args.set c.args.number (ap (λ o. is_number o c.args.number) at ∙ sym c.is_number.ensures ∙ c.if-not-is_number.false)

pub returns-in-Ok-clause-found : goal.returns-in-Ok-clause-found
returns-in-Ok-clause-found g c =
    let desc = as_described c.args.desc.now in
    let o = c.args.over.now in
    let s = shape_of c.in-Some.s.now in
    let at : structure_of desc c.args.set ≡ Some s = sym c.structure.ensures ∙ ap (λ (o : Option (Bor Structure)). option_map shape_of (option_copied o)) c.in-Some.is in
    tells_if (under o).told desc (under o).content (λ d. get d.records (c.args.set, c.args.number)) c.record_of.result (λ told spelt.
    let same : overlay_content o ≡ (under o).content = seen_below o c.requires.usable.none in
    c.record_of.ensures
    ∙ got desc (under o).content c.args.set c.args.number s c.in-Ok.slot c.requires.usable.serves.served at (set_if desc c.args.set s at c.requires.set) (low_number desc c.args.set c.args.number (ap (λ o. is_number o c.args.number) at ∙ sym c.is_number.ensures ∙ c.if-not-is_number.false))
    (ap (λ (x : Content). slot_at s (x (file_of s.number)) c.args.number) (sym same) ∙ c.in-Ok.ensures.slot told))

pub returns-then-not-is_number-clause-found : goal.returns-then-not-is_number-clause-found
returns-then-not-is_number-clause-found g c =
    let desc = as_described c.args.desc.now in
    let o = c.args.over.now in
    let s = shape_of c.in-Some.s.now in
    let at : structure_of desc c.args.set ≡ Some s = sym c.structure.ensures ∙ ap (λ (o : Option (Bor Structure)). option_map shape_of (option_copied o)) c.in-Some.is in
    tells_if (under o).told desc (under o).content (λ d. get d.records (c.args.set, c.args.number)) None
    (λ told spelt. no_record desc (under o).content c.args.set c.args.number s c.requires.usable.serves.served spelt at (sym c.is_number.ensures ∙ c.if-not-is_number.true))

pub returns-in-Ok-clause-fits : goal.returns-in-Ok-clause-fits
returns-in-Ok-clause-fits g c =
    let desc = as_described c.args.desc.now in
    let s = shape_of c.in-Some.s.now in
    let at : structure_of desc c.args.set ≡ Some s = sym c.structure.ensures ∙ ap (λ (o : Option (Bor Structure)). option_map shape_of (option_copied o)) c.in-Some.is in
    subst (λ (o : Option Record). IfSome o (RecordFits desc c.args.set)) (sym c.record_of.ensures) (record_fits_opt desc c.args.set s c.in-Ok.slot at c.in-Ok.ensures.fits)

pub returns-in-Err-clause-causes : goal.returns-in-Err-clause-causes
returns-in-Err-clause-causes g c =
    let desc = as_described c.args.desc.now in
    let o = c.args.over.now in
    let s = shape_of c.in-Some.s.now in
    let at : structure_of desc c.args.set ≡ Some s = sym c.structure.ensures ∙ ap (λ (o : Option (Bor Structure)). option_map shape_of (option_copied o)) c.in-Some.is in
    causes_err (Option Slot) (Option Record) (BadAt s (block_of s.items c.args.number) o) (BadSlot desc c.args.set o) c.in-Err.e (under o) (under c.read_slot.new.b)
    (λ f n h. bad_slot desc c.args.set s (block_of s.items c.args.number) f n o at h) c.in-Err.ensures.causes
