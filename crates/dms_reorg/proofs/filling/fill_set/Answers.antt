use Rattle.std.proofs.Common.{◌≡◌, ◌∙◌, ◌+◌, ◌*◌, ◌<◌, ℕ, List, [], Bool, Ok, Err, Some, inl, inr, length, sym, ap, refl, subst, arith}
use Rattle.std.specs.Prelude.{IsTrue, ◌⊎◌}
use Rattle.std.specs.List.{list_all}
use Rattle.dms_block.specs.Content.{apply_changes, Content}
use Rattle.dms_block.specs.View.{overlay_content, seen_counts, under}
use Rattle.dms_block.specs.ViewLaws.{counts_seen}
use Rattle.dms_block.specs.HeldLaws.{causes_or, told_after}
use Rattle.dms_chain.specs.Lists.{with_in}
use Rattle.dms_desc.specs.Files.{file_of}
use Rattle.dms_desc.specs.Shape.{shape_of}
use Rattle.dms_layout.specs.Slots.{slot_width}
use Rattle.dms_links.specs.Rows.{rec_opt}
use Rattle.dms_sets.specs.Changes.{entry_opt}
use Rattle.dms_slots.specs.FileWritten.{some_slot}
use Rattle.dms_slots.specs.Seen.{BadIn, blocks_of, count_of}
use Rattle.dms_slots.specs.SlotBlocks.{per_block, slot_at}
use Rattle.dms_lists.specs.Forms.{form_of}
use Rattle.dms_sets.specs.KeepingLaws.{told_is}
use Rattle.dms_sets.specs.Padded.{entry_width}
use Rattle.dms_spelling.specs.Spelled.{is_whole}
use Rattle.dms_spelling.specs.TreeWhole.{kept_whole}
use Rattle.dms_reorg.specs.Filled.{HoldsEntries}
use Rattle.dms_reorg.specs.Filling.{FillsList, IfMayFill, RefusedAt}
use Rattle.dms_reorg.proofs.Filled.{holds_all, holds_none, IsListedUpTo, listed_room, next_listed, none_listed, not_refused, small_slot}
use Rattle.dms_reorg.proofs.Handing.{bad_still, fill_since, fills_as, fills_finish, fills_none, fills_on, full_since}
use Rattle.dms_reorg.proofs.OneFile.{content_below, on_ok_is, on_ok_map}
use Rattle.dms_reorg.proofs.filling.fill_set.Goals as goal

pub loop-index-init : goal.loop-index-init
loop-index-init g c =
    let s = shape_of c.args.s.now in
    let t = shape_of c.args.t.now in
    let a = c.args.over.now in
    record {
      fills = fills_none {T = ℕ} c.args.s.now.number (Ok 0) a g.met.B.Blocks.same_again c.requires.usable.0;
      faults = refl;
      below = λ told m off. refl;
      whole = λ told desc same may. ap (λ (bs : List (List ℕ)). list_all is_whole bs) (sym (ap (λ (x : Content). x (file_of c.args.s.now.number)) (content_below a c.requires.clean)) ∙ may.none);
      listed = λ told desc same may. record {
        xs = [];
        listed = holds_none c.args.kinds.now t s (blocks_of t a) (under a).told (blocks_of s a) told may.none;
        upto = none_listed c.args.kinds.now s (slot_at t (blocks_of t a));
      };
    }

pub enter_slot-requires-clause-usable : goal.enter_slot-requires-clause-usable
enter_slot-requires-clause-usable g c =
    let fills = c.loop-index.invariant.fills in
    (fills.stays.sound, subst (λ (owns : ℕ → Bool). IsTrue (owns (file_of c.args.s.now.number))) (sym fills.passes.lasts.owns) c.requires.usable.1)

pub enter_slot-requires-clause-entries : goal.enter_slot-requires-clause-entries
enter_slot-requires-clause-entries g c = c.requires.entries

pub returns-in-Err-clause-fills : goal.returns-in-Err-clause-fills
returns-in-Err-clause-fills g c = fills_on {T = ℕ} {U = Unit {0}} (Err c.in-Err.fault) g.met.B.Blocks.same_then c.loop-index.invariant.fills c.in-Err.ensures.fills

pub returns-in-Err-clause-full : goal.returns-in-Err-clause-full
returns-in-Err-clause-full g c =
    let a = c.args.over.now in
    let p = c.loop-index.over in
    full_since {T = Unit {0}} (Err c.in-Err.fault) (g.B.Blocks.pace p.below) (g.B.Blocks.pace a.below) (g.met.B.Blocks.same_pace a.below p.below c.loop-index.invariant.fills.same) c.in-Err.ensures.full

pub returns-in-Err-clause-causes : goal.returns-in-Err-clause-causes
returns-in-Err-clause-causes g c =
    let s = shape_of c.args.s.now in
    let t = shape_of c.args.t.now in
    let kinds = c.args.kinds.now in
    let a = c.args.over.now in
    let p = c.loop-index.over in
    let bs = blocks_of t a in
    let before = c.loop-index.invariant in
    let k = c.loop-index.index in
    let others = before.fills.others c.args.t.now.number c.requires.apart in
    fill_since kinds t s a p before.fills.passes.lasts (g.met.B.Blocks.agrees p.below before.fills.stays.sound) before.below before.whole {T = Unit {0}} (λ f n. BadIn t p f n ⊎ RefusedAt kinds t s (k + 1) p f n) (Err c.in-Err.fault)
    (under c.enter_slot.new.over) before.faults
    (λ f n bad. elim bad [
      | inl here ↦ inl (bad_still kinds t s a p before.fills.passes.lasts (g.met.B.Blocks.agrees p.below before.fills.stays.sound) before.below before.whole f n others.0 others.1 here)
      | inr refused ↦ inr (λ told desc same may.
          let l = before.listed told desc same may in
          let is = refused l.xs l.listed in
          absurd (not_refused kinds t s bs k l.xs is.0 may.keys l.upto (ap (λ (cs : List (List ℕ)). slot_at t cs (k + 1)) (sym (others.1 told)) ∙ is.1) is.2))
    ]) c.in-Err.ensures.causes

pub loop-index-preserved : goal.loop-index-preserved
loop-index-preserved g c =
    let s = shape_of c.args.s.now in
    let t = shape_of c.args.t.now in
    let kinds = c.args.kinds.now in
    let a = c.args.over.now in
    let p = c.loop-index.over in
    let q = c.enter_slot.new.over in
    let bs = blocks_of t a in
    let before = c.loop-index.invariant in
    let k = c.loop-index.index in
    let n = c.args.s.now.number in
    let fills : FillsList {T = ℕ} n (Ok 0) a q = fills_as {T = Unit {0}} {U = ℕ} (Ok 0) (fills_on {T = ℕ} {U = Unit {0}} (Ok c.in-Ok.field-0) g.met.B.Blocks.same_then before.fills c.in-Ok.ensures.fills) in
    let listed : IfMayFill kinds t s a (IsListedUpTo kinds t s bs (k + 1) q) = (λ told desc same may.
    let l = before.listed told desc same may in
    let still : blocks_of t p ≡ bs = (before.fills.others c.args.t.now.number c.requires.apart).1 told in
    record {
      xs = with_in (entry_opt kinds s (k + 1) (rec_opt (slot_at t bs (k + 1)))) l.xs;
      listed = c.in-Ok.ensures.entered l.xs l.listed (listed_room desc kinds t s bs k l.xs same c.requires.population may.behind l.upto)
          ∙ ap (λ (cs : List (List ℕ)). Some (with_in (entry_opt kinds s (k + 1) (rec_opt (slot_at t cs (k + 1)))) l.xs)) still;
      upto = next_listed kinds s (slot_at t bs) k l.xs l.upto (λ r used. small_slot t bs (k + 1) r c.requires.population may.behind used);
    }) in
    record {
      fills = fills;
      faults = c.in-Ok.ensures.causes ∙ before.faults;
      below = λ told m off. elim (c.in-Ok.ensures.below (told_after before.fills.passes.lasts told)) [
        | inl is ↦ ap (λ (x : Content). x (file_of m)) is ∙ before.below told m off
        | inr is ↦ ap (λ (x : Content). x (file_of m)) is ∙ (fills.others m off).1 told ∙ ap (λ (x : Content). x (file_of m)) (content_below a c.requires.clean)
      ];
      whole = λ told desc same may. elim (c.in-Ok.ensures.below (told_after before.fills.passes.lasts told)) [
        | inl is ↦ ap (λ (x : Content). list_all is_whole (x (file_of n))) is ∙ before.whole told desc same may
        | inr is ↦
            let l = listed told desc same may in
            ap (λ (x : Content). list_all is_whole (x (file_of n))) is
            ∙ kept_whole (form_of s) (entry_width kinds s.parts) (blocks_of s q) l.xs (told_is (under q).told (form_of s) (entry_width kinds s.parts) (blocks_of s q) l.xs l.listed).list
      ];
      listed = listed;
    }

pub finish-requires : goal.finish-requires
finish-requires g c = record { sound = c.loop-index.invariant.fills.stays.sound }

pub returns-clause-filled : goal.returns-clause-filled
returns-clause-filled g c =
    let s = shape_of c.args.s.now in
    let t = shape_of c.args.t.now in
    let kinds = c.args.kinds.now in
    let a = c.args.over.now in
    let p = c.loop-index.over in
    let q = c.finish.new.self in
    let bs = blocks_of t a in
    let before = c.loop-index.invariant in
    let k = c.loop-index.index in
    let some : 0 < per_block t.items = some_slot (slot_width t.items) c.requires.fits (omega arith) in
    let count_is : c.from.result ≡ count_of t a = c.from.ensures ∙ c.count.ensures ∙ ap (seen_counts a) c.file_of.ensures in
    let done : k ≡ c.from.result * c.per_block.result = omega (arith, c.loop-index-test.false, c.loop-index.auto.index-end) in
    on_ok_map c.finish.result (λ (content : IsTrue (under p).told → (under q).content ≡ overlay_content p) told desc same may.
    let l = before.listed told desc same may in
    let long : c.from.result ≡ length bs = count_is ∙ counts_seen a (g.met.B.Blocks.agrees a.below c.requires.usable.0) told (file_of c.args.t.now.number) in
    let last_is : k ≡ length bs * per_block t.items = done ∙ (λ i. long i * c.per_block.ensures.count i) in
    let still : overlay_content q ≡ overlay_content p = ap (λ xs. apply_changes xs (under q).content) c.finish.ensures.written ∙ content (told_after before.fills.passes.lasts told) in
    subst (λ (own : List (List ℕ)). HoldsEntries kinds t s bs own) (sym (ap (λ (x : Content). x (file_of c.args.s.now.number)) still)) (holds_all kinds t s bs (under p).told (blocks_of s p) l.xs k last_is some l.listed l.upto)) c.finish.ensures.content

pub returns-clause-clean : goal.returns-clause-clean
returns-clause-clean g c = on_ok_is c.finish.result c.finish.ensures.written

pub returns-clause-fills : goal.returns-clause-fills
returns-clause-fills g c =
    let n = c.args.s.now.number in
    let p = c.loop-index.over in
    let q = c.finish.new.self in
    fills_on {T = ℕ} {U = Unit {0}} c.finish.result g.met.B.Blocks.same_then c.loop-index.invariant.fills
    (fills_finish {T = Unit {0}} n c.finish.result p q c.finish.ensures.written c.finish.ensures.counts c.finish.ensures.content c.finish.ensures.alters c.finish.ensures.same)

pub returns-clause-causes : goal.returns-clause-causes
returns-clause-causes g c =
    let s = shape_of c.args.s.now in
    let t = shape_of c.args.t.now in
    let kinds = c.args.kinds.now in
    let a = c.args.over.now in
    let p = c.loop-index.over in
    let q = c.finish.new.self in
    let before = c.loop-index.invariant in
    fill_since kinds t s a p before.fills.passes.lasts (g.met.B.Blocks.agrees p.below before.fills.stays.sound) before.below before.whole {T = Unit {0}} (λ f n. ⊥) c.finish.result (under q) before.faults (λ f n bad. absurd bad)
    (causes_or {T = Unit {0}} (λ f n. ⊥) c.finish.result (under p) (under q) c.finish.ensures.causes c.finish.ensures.silent)

pub returns-clause-full : goal.returns-clause-full
returns-clause-full g c =
    let a = c.args.over.now in
    let p = c.loop-index.over in
    full_since {T = Unit {0}} c.finish.result (g.B.Blocks.pace p.below) (g.B.Blocks.pace a.below) (g.met.B.Blocks.same_pace a.below p.below c.loop-index.invariant.fills.same) c.finish.ensures.full
