use Rattle.std.proofs.Common.{Bor, ◌≡◌, ◌∙◌, ◌≤◌, ℕ, Option, None, Some, ap, subst, sym, refl, true, false, arith}
use Rattle.std.specs.Option.{option_copied, option_map}
use Rattle.std.proofs.lemmas.Result.{IfOk-weaker}
use Rattle.dms_block.specs.HeldLaws.{causes_or_on, lasts_none, same_none}
use Rattle.dms_block.specs.View.{overlay_content, under}
use Rattle.dms_desc.specs.Lookups.{structure_of}
use Rattle.dms_desc.specs.Shape.{as_described, shape_of}
use Rattle.dms_desc.specs.declared.structure.Structure.{Structure}
use Rattle.dms_slots.specs.Seen.{BadAt}
use Rattle.dms_slots.specs.SlotBlocks.{block_of}
use Rattle.dms_links.specs.Altering.{wrote_none}
use Rattle.dms_links.specs.AlteringIn.{BadOf, altered_here, altered_none, altered_off, is_slot, slot_low, slot_most, slot_set}
use Rattle.dms_links.proofs.altering.alter_in.Goals as goal

pub returns-in-None-clause-writes : goal.returns-in-None-clause-writes
returns-in-None-clause-writes g c = wrote_none 1 _ c.args.over.now g.met.B.Blocks.same_again tt refl c.requires.sound

pub returns-in-None-clause-altered : goal.returns-in-None-clause-altered
returns-in-None-clause-altered g c told =
    let desc = as_described c.args.desc.now in
    let off : structure_of desc c.args.set ≡ None = sym c.structure.ensures ∙ ap (λ (o : Option (Bor Structure)). option_map shape_of (option_copied o)) c.in-None.is in
    altered_none desc c.args.set c.args.number c.args.change (overlay_content c.args.over.now) off

pub returns-then-not-is_slot-clause-writes : goal.returns-then-not-is_slot-clause-writes
returns-then-not-is_slot-clause-writes g c = wrote_none 1 _ c.args.over.now g.met.B.Blocks.same_again tt refl c.requires.sound

pub returns-then-not-is_slot-clause-altered : goal.returns-then-not-is_slot-clause-altered
returns-then-not-is_slot-clause-altered g c told =
    let desc = as_described c.args.desc.now in
    let s = shape_of c.in-Some.s.now in
    let at : structure_of desc c.args.set ≡ Some s = sym c.structure.ensures ∙ ap (λ (o : Option (Bor Structure)). option_map shape_of (option_copied o)) c.in-Some.is in
    altered_off desc c.args.set c.args.number c.args.change (overlay_content c.args.over.now) s at (sym c.is_slot.ensures ∙ c.if-not-is_slot.true)

pub alter-requires-clause-owned : goal.alter-requires-clause-owned
alter-requires-clause-owned g c =
    let desc = as_described c.args.desc.now in
    let s = shape_of c.in-Some.s.now in
    let at : structure_of desc c.args.set ≡ Some s = sym c.structure.ensures ∙ ap (λ (o : Option (Bor Structure)). option_map shape_of (option_copied o)) c.in-Some.is in
    (c.requires.holds s at).owns

pub alter-requires-clause-few : goal.alter-requires-clause-few
alter-requires-clause-few g c =
    let desc = as_described c.args.desc.now in
    let s = shape_of c.in-Some.s.now in
    let at : structure_of desc c.args.set ≡ Some s = sym c.structure.ensures ∙ ap (λ (o : Option (Bor Structure)). option_map shape_of (option_copied o)) c.in-Some.is in
    (c.requires.holds s at).sized.few

pub alter-requires-clause-fits : goal.alter-requires-clause-fits
alter-requires-clause-fits g c =
    let desc = as_described c.args.desc.now in
    let s = shape_of c.in-Some.s.now in
    let at : structure_of desc c.args.set ≡ Some s = sym c.structure.ensures ∙ ap (λ (o : Option (Bor Structure)). option_map shape_of (option_copied o)) c.in-Some.is in
    (c.requires.holds s at).sized.fits

pub alter-requires-clause-number : goal.alter-requires-clause-number
alter-requires-clause-number g c = slot_low (shape_of c.in-Some.s.now) c.args.number (sym c.is_slot.ensures ∙ c.if-not-is_slot.false)

pub alter-requires-clause-most : goal.alter-requires-clause-most
alter-requires-clause-most g c =
    let desc = as_described c.args.desc.now in
    let s = shape_of c.in-Some.s.now in
    let at : structure_of desc c.args.set ≡ Some s = sym c.structure.ensures ∙ ap (λ (o : Option (Bor Structure)). option_map shape_of (option_copied o)) c.in-Some.is in
    omega (arith, slot_most s c.args.number (sym c.is_slot.ensures ∙ c.if-not-is_slot.false), (c.requires.holds s at).few)

pub alter-requires-clause-may : goal.alter-requires-clause-may
alter-requires-clause-may g c =
    let desc = as_described c.args.desc.now in
    let s = shape_of c.in-Some.s.now in
    let at : structure_of desc c.args.set ≡ Some s = sym c.structure.ensures ∙ ap (λ (o : Option (Bor Structure)). option_map shape_of (option_copied o)) c.in-Some.is in
    c.requires.may s at

pub returns-else-not-is_slot-clause-altered : goal.returns-else-not-is_slot-clause-altered
returns-else-not-is_slot-clause-altered g c =
    let desc = as_described c.args.desc.now in
    let s = shape_of c.in-Some.s.now in
    let at : structure_of desc c.args.set ≡ Some s = sym c.structure.ensures ∙ ap (λ (o : Option (Bor Structure)). option_map shape_of (option_copied o)) c.in-Some.is in
    IfOk-weaker c.alter.result _ _ (λ done h told. altered_here desc c.args.set c.args.number c.args.change (overlay_content c.args.over.now) (overlay_content c.alter.new.over) s done at (sym c.is_slot.ensures ∙ c.if-not-is_slot.false) (h told)) c.alter.ensures.altered

pub returns-else-not-is_slot-clause-causes : goal.returns-else-not-is_slot-clause-causes
returns-else-not-is_slot-clause-causes g c =
    let desc = as_described c.args.desc.now in
    let s = shape_of c.in-Some.s.now in
    let a = c.args.over.now in
    let at : structure_of desc c.args.set ≡ Some s = sym c.structure.ensures ∙ ap (λ (o : Option (Bor Structure)). option_map shape_of (option_copied o)) c.in-Some.is in
    causes_or_on (BadAt s (block_of s.items c.args.number) a) (BadOf desc c.args.set a) c.alter.result (under a) (under a) (under c.alter.new.over) (λ f i bad. (s, at, slot_set s c.args.number (sym c.is_slot.ensures ∙ c.if-not-is_slot.false), bad.0)) refl (lasts_none (under a)) (same_none (under a)) c.alter.ensures.causes
