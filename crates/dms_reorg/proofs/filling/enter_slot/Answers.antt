use Rattle.std.proofs.Common.{◌≡◌, ◌∙◌, ℕ, Bool, Ok, Err, Some, inl, inr, ◌⊎◌, sym, ap, refl, subst}
use Rattle.std.specs.Prelude.{IsTrue, IfSome}
use Rattle.std.specs.declared.option.Option.{Option}
use Rattle.dms_block.specs.HeldLaws.{causes_or_on, lasts_none, same_none}
use Rattle.dms_block.specs.View.{under}
use Rattle.dms_chain.specs.Lists.{with_in}
use Rattle.dms_desc.specs.Files.{file_of}
use Rattle.dms_desc.specs.Shape.{shape_of}
use Rattle.dms_layout.specs.declared.slot.Slot.{Slot}
use Rattle.dms_layout.specs.declared.slot.SlotRead.{SlotRead}
use Rattle.dms_layout.specs.Slots.{SlotFits}
use Rattle.dms_links.specs.Rows.{rec_opt}
use Rattle.dms_lists.specs.Forms.{form_of}
use Rattle.dms_sets.specs.Changes.{entry_in, entry_opt, HasRoom, IfListed, list_of_set, ListsOf}
use Rattle.dms_sets.specs.Keeping.{seen_list}
use Rattle.dms_sets.specs.KeepingLaws.{list_read, told_is}
use Rattle.dms_sets.specs.Padded.{entry_width}
use Rattle.dms_slots.specs.Seen.{BadAt, BadIn, blocks_of}
use Rattle.dms_slots.specs.SlotBlocks.{block_of, slot_opt}
use Rattle.dms_reorg.specs.Filling.{RefusedAt, RefusedIn}
use Rattle.dms_reorg.proofs.Handing.{down_after, full_none, full_since, fills_on, fills_reads, fills_reads_err}
use Rattle.dms_reorg.proofs.OneFile.{on_ok_map}
use Rattle.dms_reorg.proofs.filling.enter_slot.Goals as goal

pub enter_record-requires-clause-usable : goal.enter_record-requires-clause-usable
enter_record-requires-clause-usable g c =
    let looks = c.in-Ok-Some.ensures.reads.looks in
    (looks.stays.sound, subst (λ (owns : ℕ → Bool). IsTrue (owns (file_of c.args.s.now.number))) (sym looks.passes.lasts.owns) c.requires.usable.1)

pub enter_record-requires-clause-fits : goal.enter_record-requires-clause-fits
enter_record-requires-clause-fits g c = c.requires.entries c.in-Ok-Some.slot (subst (λ (o : Option Slot). IfSome o (SlotFits (shape_of c.args.t.now))) c.in-Ok-Some.field-0-is c.in-Ok-Some.ensures.fits)

pub returns-in-Err-clause-fills : goal.returns-in-Err-clause-fills
returns-in-Err-clause-fills g c = fills_reads_err {T = Option Slot} {U = Unit {0}} c.args.s.now.number c.in-Err.fault c.args.over.now c.read_slot.new.b c.in-Err.ensures.reads

pub returns-in-Err-clause-causes : goal.returns-in-Err-clause-causes
returns-in-Err-clause-causes g c =
    let t = shape_of c.args.t.now in
    let a = c.args.over.now in
    causes_or_on {T = Unit {0}} (BadAt t (block_of t.items c.args.number) a) (λ f b. BadIn t a f b ⊎ RefusedAt c.args.kinds.now t (shape_of c.args.s.now) c.args.number a f b) (Err c.in-Err.fault) (under a) (under a) (under c.read_slot.new.b)
    (λ f k h. inl h.0) refl (lasts_none (under a)) (same_none (under a)) c.in-Err.ensures.causes

pub returns-in-Ok-None-clause-entered : goal.returns-in-Ok-None-clause-entered
returns-in-Ok-None-clause-entered g c xs listed room =
    let s = shape_of c.args.s.now in
    let t = shape_of c.args.t.now in
    let kinds = c.args.kinds.now in
    let a = c.args.over.now in
    let b = c.read_slot.new.b in
    let told = (told_is (under a).told (form_of s) (entry_width kinds s.parts) (blocks_of s a) xs listed).told_is in
    let read = c.in-Ok-None.ensures.slot told ∙ ap slot_opt c.in-Ok-None.field-0-is in
    let still : seen_list b ≡ seen_list a = list_read {T = Option Slot} 1 (Ok c.in-Ok-None.field-0) a b c.in-Ok-None.ensures.reads in
    ap (λ (ls : ListsOf). list_of_set ls kinds s) still ∙ listed ∙ ap (λ (r : SlotRead). Some (with_in (entry_opt kinds s c.args.number (rec_opt r)) xs)) (sym read)

pub returns-in-Ok-None-clause-fills : goal.returns-in-Ok-None-clause-fills
returns-in-Ok-None-clause-fills g c = fills_reads {T = Option Slot} {U = Unit {0}} c.args.s.now.number tt c.args.over.now c.read_slot.new.b c.in-Ok-None.ensures.reads

pub returns-in-Ok-None-clause-causes : goal.returns-in-Ok-None-clause-causes
returns-in-Ok-None-clause-causes g c = c.in-Ok-None.ensures.causes

pub returns-in-Ok-Some-clause-entered : goal.returns-in-Ok-Some-clause-entered
returns-in-Ok-Some-clause-entered g c =
    let s = shape_of c.args.s.now in
    let t = shape_of c.args.t.now in
    let kinds = c.args.kinds.now in
    let a = c.args.over.now in
    let b = c.read_slot.new.b in
    let d = c.enter_record.new.over in
    let slot = c.in-Ok-Some.slot in
    let still : seen_list b ≡ seen_list a = list_read {T = Option Slot} 1 (Ok c.in-Ok-Some.field-0) a b c.in-Ok-Some.ensures.reads in
    on_ok_map c.enter_record.result (λ (h : IfListed (list_of_set (seen_list b) kinds s) (λ xs. HasRoom xs → list_of_set (seen_list d) kinds s ≡ Some (with_in (entry_in kinds s c.args.number slot.rec) xs))) xs listed room.
    let told = (told_is (under a).told (form_of s) (entry_width kinds s.parts) (blocks_of s a) xs listed).told_is in
    let read = c.in-Ok-Some.ensures.slot told ∙ ap slot_opt c.in-Ok-Some.field-0-is in
    h xs (ap (λ (ls : ListsOf). list_of_set ls kinds s) still ∙ listed) room ∙ ap (λ (r : SlotRead). Some (with_in (entry_opt kinds s c.args.number (rec_opt r)) xs)) (sym read)) c.enter_record.ensures.entered

pub returns-in-Ok-Some-clause-fills : goal.returns-in-Ok-Some-clause-fills
returns-in-Ok-Some-clause-fills g c =
    fills_on {T = Unit {0}} {U = Unit {0}} c.enter_record.result g.met.B.Blocks.same_then (fills_reads {T = Option Slot} {U = Unit {0}} c.args.s.now.number tt c.args.over.now c.read_slot.new.b c.in-Ok-Some.ensures.reads) c.enter_record.ensures.fills

pub returns-in-Ok-Some-clause-causes : goal.returns-in-Ok-Some-clause-causes
returns-in-Ok-Some-clause-causes g c =
    let s = shape_of c.args.s.now in
    let t = shape_of c.args.t.now in
    let kinds = c.args.kinds.now in
    let a = c.args.over.now in
    let b = c.read_slot.new.b in
    let slot = c.in-Ok-Some.slot in
    let looks = c.in-Ok-Some.ensures.reads.looks in
    let still : seen_list b ≡ seen_list a = list_read {T = Option Slot} 1 (Ok c.in-Ok-Some.field-0) a b c.in-Ok-Some.ensures.reads in
    causes_or_on {T = Unit {0}} (RefusedIn kinds s slot.rec b) (λ f n. BadIn t a f n ⊎ RefusedAt kinds t s c.args.number a f n) c.enter_record.result (under a) (under b) (under c.enter_record.new.over)
    (λ f n refused. inr (λ xs listed.
    let told = (told_is (under a).told (form_of s) (entry_width kinds s.parts) (blocks_of s a) xs listed).told_is in
    (slot, c.in-Ok-Some.ensures.slot told ∙ ap slot_opt c.in-Ok-Some.field-0-is, refused xs (ap (λ (ls : ListsOf). list_of_set ls kinds s) still ∙ listed)))) c.in-Ok-Some.ensures.causes looks.passes.lasts looks.same c.enter_record.ensures.causes

pub returns-in-Err-clause-full : goal.returns-in-Err-clause-full
returns-in-Err-clause-full g c = full_none (Option Slot) (Unit {0}) c.in-Err.fault (λ f. f ≡ (g.B.Blocks.pace c.args.over.now.below).last) c.in-Err.ensures.reads.looks.not_full

pub returns-in-Ok-None-clause-below : goal.returns-in-Ok-None-clause-below
returns-in-Ok-None-clause-below g c told = inl (c.in-Ok-None.ensures.reads.looks.same.content told)

pub returns-in-Ok-Some-clause-below : goal.returns-in-Ok-Some-clause-below
returns-in-Ok-Some-clause-below g c =
    let looks = c.in-Ok-Some.ensures.reads.looks in
    on_ok_map c.enter_record.result (down_after c.args.over.now c.read_slot.new.b c.enter_record.new.over looks.passes.lasts looks.same) c.enter_record.ensures.below

pub returns-in-Ok-Some-clause-full : goal.returns-in-Ok-Some-clause-full
returns-in-Ok-Some-clause-full g c =
    let a = c.args.over.now in
    let b = c.read_slot.new.b in
    full_since {T = Unit {0}} c.enter_record.result (g.B.Blocks.pace b.below) (g.B.Blocks.pace a.below) (g.met.B.Blocks.same_pace a.below b.below c.in-Ok-Some.ensures.reads.same) c.enter_record.ensures.full
