use Rattle.std.proofs.Common.{Bor, ◌≡◌, ◌∙◌, ◌≤◌, ℕ, Bool, Option, IfSome, IsTrue, None, Some, ap, subst, sym, refl, true, false, slice_get, arith}
use Rattle.std.specs.Option.{option_copied, option_map}
use Rattle.std.specs.declared.result.Result.TheVariants.{Ok, Err}
use Rattle.std.proofs.lemmas.Result.{IfOk-weaker}
use Rattle.dms_block.specs.HeldLaws.{told_after}
use Rattle.dms_block.specs.View.{overlay_content, under}
use Rattle.dms_block.specs.ViewLaws.{seen_still}
use Rattle.dms_chain.specs.SeenLaws.{causes_err, causes_since}
use Rattle.dms_desc.specs.Lookups.{structure_of}
use Rattle.dms_desc.specs.Shape.{Described, Shape, as_described, shape_of}
use Rattle.dms_desc.specs.declared.structure.Structure.{Structure}
use Rattle.dms_layout.specs.Slots.{SlotFits}
use Rattle.dms_layout.specs.declared.slot.Slot.{Slot}
use Rattle.dms_layout.specs.declared.slot.SlotRead.TheVariants.{Free, Used}
use Rattle.dms_slots.specs.Seen.{BadAt}
use Rattle.dms_slots.specs.SlotBlocks.{block_of, slot_opt}
use Rattle.dms_links.specs.Altering.{failed_read, read_alone, read_then, wrote_none}
use Rattle.dms_links.specs.AlteringIn.{is_slot, slot_low, slot_most, slot_set}
use Rattle.dms_links.specs.Setting.{counts_in, links_none, links_off, links_slot, links_used}
use Rattle.dms_links.specs.Stepping.{none_bad_of}
use Rattle.dms_links.specs.Taking.{files_since, holds_since}
use Rattle.dms_links.proofs.setting.set_link.Goals as goal

pub returns-in-None-clause-writes : goal.returns-in-None-clause-writes
returns-in-None-clause-writes g c = wrote_none 3 _ c.args.over.now g.met.B.Blocks.same_again tt refl c.requires.sound

pub returns-in-None-clause-linked : goal.returns-in-None-clause-linked
returns-in-None-clause-linked g c told =
    let desc = as_described c.args.desc.now in
    let off : structure_of desc c.args.set ≡ None = sym c.structure.ensures ∙ ap (λ (o : Option (Bor Structure)). option_map shape_of (option_copied o)) c.in-None.is in
    links_none desc c.args.set c.args.number c.args.item c.args.to (overlay_content c.args.over.now) (overlay_content c.args.over.now) false off

pub returns-then-not-is_slot-clause-writes : goal.returns-then-not-is_slot-clause-writes
returns-then-not-is_slot-clause-writes g c = wrote_none 3 _ c.args.over.now g.met.B.Blocks.same_again tt refl c.requires.sound

pub returns-then-not-is_slot-clause-linked : goal.returns-then-not-is_slot-clause-linked
returns-then-not-is_slot-clause-linked g c told =
    let desc = as_described c.args.desc.now in
    let s = shape_of c.in-Some.s.now in
    let at : structure_of desc c.args.set ≡ Some s = sym c.structure.ensures ∙ ap (λ (o : Option (Bor Structure)). option_map shape_of (option_copied o)) c.in-Some.is in
    links_off desc c.args.set c.args.number c.args.item c.args.to (overlay_content c.args.over.now) (overlay_content c.args.over.now) false s at (sym c.is_slot.ensures ∙ c.if-not-is_slot.true)

pub read_slot-requires-clause-few : goal.read_slot-requires-clause-few
read_slot-requires-clause-few g c =
    let desc = as_described c.args.desc.now in
    let s = shape_of c.in-Some.s.now in
    let at : structure_of desc c.args.set ≡ Some s = sym c.structure.ensures ∙ ap (λ (o : Option (Bor Structure)). option_map shape_of (option_copied o)) c.in-Some.is in
    (c.requires.holds c.args.set s at).sized.few

pub read_slot-requires-clause-fits : goal.read_slot-requires-clause-fits
read_slot-requires-clause-fits g c =
    let desc = as_described c.args.desc.now in
    let s = shape_of c.in-Some.s.now in
    let at : structure_of desc c.args.set ≡ Some s = sym c.structure.ensures ∙ ap (λ (o : Option (Bor Structure)). option_map shape_of (option_copied o)) c.in-Some.is in
    (c.requires.holds c.args.set s at).sized.fits

pub read_slot-requires-clause-number : goal.read_slot-requires-clause-number
read_slot-requires-clause-number g c = slot_low (shape_of c.in-Some.s.now) c.args.number (sym c.is_slot.ensures ∙ c.if-not-is_slot.false)

pub returns-in-Err-clause-writes : goal.returns-in-Err-clause-writes
returns-in-Err-clause-writes g c =
    let s = shape_of c.in-Some.s.now in
    failed_read 3 (BadAt s (block_of s.items c.args.number) c.args.over.now) c.in-Err.e c.args.over.now c.read_slot.new.b c.in-Err.ensures.reads c.in-Err.ensures.causes

pub returns-in-Err-clause-causes : goal.returns-in-Err-clause-causes
returns-in-Err-clause-causes g c told files =
    let desc = as_described c.args.desc.now in
    let s = shape_of c.in-Some.s.now in
    let at : structure_of desc c.args.set ≡ Some s = sym c.structure.ensures ∙ ap (λ (o : Option (Bor Structure)). option_map shape_of (option_copied o)) c.in-Some.is in
    let one : is_slot s c.args.number ≡ true = sym c.is_slot.ensures ∙ c.if-not-is_slot.false in
    let a = c.args.over.now in
    causes_err (Option Slot) Bool (BadAt s (block_of s.items c.args.number) a) (λ f k. ⊥) c.in-Err.e (under a) (under c.read_slot.new.b)
    (λ f k bad. none_bad_of desc a c.args.set told files f k (s, at, slot_set s c.args.number one, bad.0)) c.in-Err.ensures.causes

pub returns-in-Ok-None-clause-writes : goal.returns-in-Ok-None-clause-writes
returns-in-Ok-None-clause-writes g c = read_alone 3 _ c.args.over.now c.read_slot.new.b c.in-Ok-None.ensures.reads c.in-Ok-None.ensures.causes

pub returns-in-Ok-None-clause-linked : goal.returns-in-Ok-None-clause-linked
returns-in-Ok-None-clause-linked g c told =
    let desc = as_described c.args.desc.now in
    let s = shape_of c.in-Some.s.now in
    let at : structure_of desc c.args.set ≡ Some s = sym c.structure.ensures ∙ ap (λ (o : Option (Bor Structure)). option_map shape_of (option_copied o)) c.in-Some.is in
    links_slot desc c.args.set c.args.number c.args.item c.args.to (overlay_content c.args.over.now) (overlay_content c.read_slot.new.b) false s Free at
    (c.in-Ok-None.ensures.slot told ∙ ap slot_opt c.in-Ok-None.field-0-is) (refl, seen_still c.in-Ok-None.ensures.reads told)

pub returns-in-Ok-None-clause-causes : goal.returns-in-Ok-None-clause-causes
returns-in-Ok-None-clause-causes g c told files = c.in-Ok-None.ensures.causes

pub relink-requires-clause-sound : goal.relink-requires-clause-sound
relink-requires-clause-sound g c = c.in-Ok-Some.ensures.reads.looks.stays.sound

pub relink-requires-clause-holds : goal.relink-requires-clause-holds
relink-requires-clause-holds g c = holds_since (as_described c.args.desc.now) c.args.over.now c.read_slot.new.b c.in-Ok-Some.ensures.reads c.requires.holds

pub returns-in-Ok-Some-clause-writes : goal.returns-in-Ok-Some-clause-writes
returns-in-Ok-Some-clause-writes g c =
    read_then 3 c.relink.result c.args.over.now c.read_slot.new.b c.relink.new.over g.met.B.Blocks.same_then c.in-Ok-Some.ensures.reads c.in-Ok-Some.ensures.causes c.relink.ensures.writes

pub returns-in-Ok-Some-clause-linked : goal.returns-in-Ok-Some-clause-linked
returns-in-Ok-Some-clause-linked g c =
    let desc = as_described c.args.desc.now in
    let s = shape_of c.in-Some.s.now in
    let at : structure_of desc c.args.set ≡ Some s = sym c.structure.ensures ∙ ap (λ (o : Option (Bor Structure)). option_map shape_of (option_copied o)) c.in-Some.is in
    let a = c.args.over.now in
    let y = c.read_slot.new.b in
    let z = c.relink.new.over in
    let reads = c.in-Ok-Some.ensures.reads in
    let fits = subst (λ (o : Option Slot). IfSome o (SlotFits s)) c.in-Ok-Some.field-0-is c.in-Ok-Some.ensures.fits in
    let counts_is = c.counts_in-counts.ensures ∙ ap counts_in (c.item_at.ensures ∙ (λ i. slice_get (c.as_slice.ensures i) (c.saturating_sub-at.ensures i))) in
    IfOk-weaker c.relink.result _ _ (λ done h told.
    links_used desc c.args.set c.args.number c.args.item c.args.to (overlay_content a) (overlay_content y) (overlay_content z) done s c.in-Ok-Some.slot c.counts_in-counts.result c.old_target-old.result at
    (c.in-Ok-Some.ensures.slot told ∙ ap slot_opt c.in-Ok-Some.field-0-is) fits (seen_still reads told) counts_is c.old_target-old.ensures (h (told_after reads.looks.passes.lasts told))) c.relink.ensures.altered

pub returns-in-Ok-Some-clause-causes : goal.returns-in-Ok-Some-clause-causes
returns-in-Ok-Some-clause-causes g c told files =
    let desc = as_described c.args.desc.now in
    let a = c.args.over.now in
    let y = c.read_slot.new.b in
    let reads = c.in-Ok-Some.ensures.reads in
    causes_since (λ f k. ⊥) (λ f k. ⊥) c.relink.result a y c.relink.new.over (λ f k h. h) c.in-Ok-Some.ensures.causes reads
    (c.relink.ensures.causes (told_after reads.looks.passes.lasts told) (files_since desc a y reads told files))
