-- What a link that is set makes of the content of a database.
use Rattle.std.proofs.Common.{◌≡◌, ◌∙◌, ◌+◌, ◌-◌, ◌^◌, ◌<◌, ℕ, Bool, true, false, cond, IsTrue, Some, None, refl, sym, ap, subst, slice_get}
use Rattle.std.specs.declared.option.Option.{Option}
use Rattle.std.specs.FinMap.{get, get-insert, insert}
use Rattle.std.specs.Ordering.{eq_by_cmp}
use Rattle.dms_block.specs.Content.{Content}
use Rattle.dms_desc.specs.Lookups.{items_of, structure_of}
use Rattle.dms_desc.specs.Shape.{Shape, Described}
use Rattle.dms_desc.specs.declared.record.Record.{Record}
use Rattle.dms_desc.specs.declared.structure.Item.{Item}
use Rattle.dms_layout.specs.declared.slot.SlotRead.{SlotRead}
use Rattle.dms_layout.specs.declared.slot.SlotRead.TheVariants.{Free, Used, Bad}
use Rattle.dms_links.specs.Altered.{is_link_item}
use Rattle.dms_links.specs.AlteringIn.{MayChangeIn, is_slot}
use Rattle.dms_links.specs.Rows.{file_in}
use Rattle.dms_links.specs.Setting.{LinksIn, LinksSlot, counts_in, link_steps, old_target}
use Rattle.dms_links.specs.SettingCounts.{IfCounted}
use Rattle.dms_links.specs.SettingLaws.{LinkIsSet, MayLink, link_is_set}
use Rattle.dms_links.specs.Standing.{slot_record}
use Rattle.dms_links.specs.Stands.{Counts, tally_of}
use Rattle.dms_links.specs.Stepping.{AreSlotFiles}
use Rattle.dms_links.specs.declared.altering.SlotChange.TheVariants.{Linked}
use Rattle.dms_model.specs.Changing.{IsLinkTarget}
use Rattle.dms_model.specs.Db.{Db, Place, Records, place_cmp}
use Rattle.dms_model.specs.Fitting.{HasRecord}
use Rattle.dms_model.specs.Places.{place_is, places_total}
use Rattle.dms_model.specs.Uses.{after_link, link_value, linked_record}
use Rattle.dms_sets.specs.Alike.{set_alike}
use Rattle.dms_sets.specs.Stored.{is_link_at}
use Rattle.dms_slots.specs.SlotBlocks.{slot_at}
use Rattle.dms_spelling.specs.After.{SlotsOnly, lists_stay, slot_files, slots_same, slots_steps, stands_after}
use Rattle.dms_spelling.specs.Few.{has_room}
use Rattle.dms_spelling.specs.Holds.{have_slots, records_fit, small_in}
use Rattle.dms_spelling.specs.Serving.{IsServed}
use Rattle.dms_spelling.specs.Spelled.{database_in}
use Rattle.dms_spelling.specs.Stands.{spell_by}
use Rattle.dms_spelling.specs.Staying.{TakenStay, same_stays, steps_stay}
use Rattle.dms_tally.specs.Counts.{counted_in}
use Rattle.dms_removal.specs.Alike.{AreAlikeIn, OptAlike, alike_keeps, alike_same, entries_keep, relisted}
use Rattle.dms_removal.specs.Promises.{LinksRecord}
use Rattle.dms_removal.specs.Using.{files, some_number, some_set, there}
use Rattle.dms_spelling.specs.Ready.{IsReady}
use Rattle.std.proofs.lemmas.Result.{IfOk-weaker}
use Rattle.std.specs.Prelude.{IfOk}
use Rattle.std.specs.declared.result.Result.{Result}
use Rattle.std.specs.declared.result.Result.TheVariants.{Ok}
use Rattle.dms_block.specs.Held.{HasCausesOr}
use Rattle.dms_block.specs.View.{overlay_content, under}
use Rattle.dms_block.specs.declared.block_fault.BlockFault.{BlockFault}
use Rattle.dms_block.specs.declared.blocks.Blocks.{Ghosts}
use Rattle.dms_block.specs.declared.overlay.Overlay.{Overlay}
use Rattle.dms_links.specs.Altering.{WritesSlots, wrote_none}

-- ---- the records differ in a link alone

same_link : (o : Option Item) → is_link_item o ≡ is_link_at o
same_link None = refl
same_link (Some i) = refl

module _ (desc : Described) (m : Records) (set number item : ℕ) (to : Option ℕ) (r : Record) (at : get m (set, number) ≡ Some r) (link : is_link_at (slice_get (items_of (structure_of desc set)) (item - 1)) ≡ true) where
  abbrev made : Record
  made = linked_record (get m (set, number)) item to

  here_alike : OptAlike (items_of (structure_of desc set)) (Some made) (get m (set, number))
  here_alike = subst (λ (o : Option Record). OptAlike (items_of (structure_of desc set)) (Some (linked_record o item to)) o) (sym at) (refl, set_alike (items_of (structure_of desc set)) r.values (item - 1) (link_value to) link)

  by_place : (p : Place) (b : Bool) → eq_by_cmp place_cmp p (set, number) ≡ b → OptAlike (items_of (structure_of desc p.0)) (cond b (Some made) (get m p)) (get m p)
  by_place p true is = subst (λ (q : Place). OptAlike (items_of (structure_of desc q.0)) (Some made) (get m q)) (sym (place_is p (set, number) is)) here_alike
  by_place p false is = alike_same (items_of (structure_of desc p.0)) (get m p)

  pub linked_alike : AreAlikeIn desc (insert m (set, number) made) m
  linked_alike p =
      subst (λ (o : Option Record). OptAlike (items_of (structure_of desc p.0)) o (get m p)) (sym (get-insert places_total m (set, number) made p))
      (by_place p (eq_by_cmp place_cmp p (set, number)) refl)

-- ---- slots

if_counted : (P : ℕ → ℕ → Type 0) (t : ℕ) (o : Option ℕ) → ((m : ℕ) → P t m) → IfCounted t o P
if_counted P t None h = tt
if_counted P t (Some m) h = λ some. h m

module _ (desc : Described) (served : IsServed desc) (set number item : ℕ) (to : Option ℕ) (s : Shape) (done : Bool) (c d : Content) where
  slot_only : (r : SlotRead) → AreSlotFiles desc c → LinksSlot desc s set number item to r done c d → SlotsOnly desc c d
  slot_only Free files h = slots_same desc c d h.1
  slot_only (Used x) files h = slots_steps desc served (link_steps set number item to (counts_in (slice_get s.items (item - 1))) (old_target item x)) done c d files h.1
  slot_only Bad files h = slots_same desc c d h.1

  slot_stay : (r : SlotRead) → LinksSlot desc s set number item to r done c d → TakenStay desc c d
  slot_stay Free h = same_stays desc c d h.1
  slot_stay (Used x) h = steps_stay desc (link_steps set number item to (counts_in (slice_get s.items (item - 1))) (old_target item x)) done c d (have_slots desc served) h.1
  slot_stay Bad h = same_stays desc c d h.1

  -- No number becomes free.
  pub link_stays : structure_of desc set ≡ Some s → is_slot s number ≡ true → LinksIn desc set number item to c d done → TakenStay desc c d
  link_stays at one h = slot_stay (slot_at s (file_in c s) number) (h s at one)

  module _ (db : Db) (spelt : database_in desc c ≡ Some db) (holds : HasRecord db set number) (target : IsLinkTarget desc db set item to) (at : structure_of desc set ≡ Some s) (one : is_slot s number ≡ true) (may : MayChangeIn desc set (Linked item to)) (h : LinksIn desc set number item to c d done) where
    counts : Counts desc db (tally_of desc db)
    counts = record { counted = λ t m low. refl; owned = λ t m low. refl }

    may_link : MayLink desc db set number item to s
    may_link = record {
      at = at;
      item_is = (may s at).0;
      stands = holds;
      target = λ x there. target x (ap (λ (o : Option Shape). slice_get (items_of o) (item - 1)) at ∙ there);
      room = if_counted (λ t m. counted_in desc db t m + 1 < 2 ^ 32) (counts_in (slice_get s.items (item - 1))) to (λ m. (has_room desc served db (tally_of desc db) c (files desc served db c spelt) (counts_in (slice_get s.items (item - 1))) m).counted);
    }

    is_set : LinkIsSet desc db d set number item to done
    is_set = link_is_set desc db (tally_of desc db) c d set number item to s done (have_slots desc served) (files desc served db c spelt).slots counts may_link h

    -- The content spells the database with the link.
    pub link_spells : (done ≡ true) × (database_in desc d ≡ Some (after_link db set number item to))
    unfolding after_link
    link_spells =
        let own = tally_of desc db in
        let before = files desc served db c spelt in
        let rec = (there desc served db c spelt set number holds).slot.rec in
        let stands = slot_record desc db own c c (have_slots desc served) before.slots set number holds in
        let link : is_link_at (slice_get (items_of (structure_of desc set)) (item - 1)) ≡ true =
        ap (λ (o : Option Shape). is_link_at (slice_get (items_of o) (item - 1))) at ∙ sym (same_link (slice_get s.items (item - 1))) ∙ (may s at).0 in
        let m = insert db.records (set, number) (linked_record (get db.records (set, number)) item to) in
        let alike = linked_alike desc db.records set number item to rec stands link in
        let after : Db = record db { records = m } in
        let lists = relisted desc served db m (records_fit desc served db own c before.slots) (small_in desc served db own c before.slots before.lists before.entries) alike c c (lists_stay desc db c served before.fit before.lists) in
        let only = slot_only (slot_at s (file_in c s) number) (slot_files desc db own c served before.slots) (h s at one) in
        let all = stands_after desc served after is_set.moved c c d before.fit lists only is_set.files (entries_keep desc db m (alike_keeps desc m db.records alike) before.entries) in
        (is_set.done_is, spell_by desc after is_set.moved d served all is_set.counts)

-- ---- what is promised

module _ {B : Type 0} {g : Ghosts B} (desc : Described) (set number item : ℕ) (to : Option ℕ) where
  -- there is no such record
  pub link_none : (a : Overlay B g) → ((b : B) → g.same_blocks b b) → IsReady desc a → (structure_of desc set ≡ None) → LinksRecord desc set number item to (Ok false) a a
  link_none a again ready off = record {
    writes = wrote_none 3 (Ok false) a again tt refl ready.sound;
    linked = λ told db spelt holds target. absurd (some_set desc ready.served db (overlay_content a) spelt set number holds off);
    taken = λ told. same_stays desc (overlay_content a) (overlay_content a) refl;
    below = λ told db spelt. refl;
  }

  pub link_off : (a : Overlay B g) (s : Shape) → ((b : B) → g.same_blocks b b) → IsReady desc a → structure_of desc set ≡ Some s → is_slot s number ≡ false → LinksRecord desc set number item to (Ok false) a a
  link_off a s again ready at off = record {
    writes = wrote_none 3 (Ok false) a again tt refl ready.sound;
    linked = λ told db spelt holds target. absurd (some_number desc ready.served db (overlay_content a) spelt set number holds s at off);
    taken = λ told. same_stays desc (overlay_content a) (overlay_content a) refl;
    below = λ told db spelt. refl;
  }

  -- or its slots were altered
  pub link_on : (r : Result Bool BlockFault) (a b : Overlay B g) (s : Shape) → IsReady desc a → structure_of desc set ≡ Some s → is_slot s number ≡ true → MayChangeIn desc set (Linked item to) → WritesSlots 3 r a b
      → IfOk r (λ done. IsTrue (under a).told → LinksIn desc set number item to (overlay_content a) (overlay_content b) done) → (IsTrue (under a).told → AreSlotFiles desc (overlay_content a) → HasCausesOr (λ f k. ⊥) r (under a) (under b))
      → LinksRecord desc set number item to r a b
  link_on r a b s ready at one may writes linked causes = record {
    writes = writes;
    linked = IfOk-weaker r _ _ (λ done h told db spelt holds target. link_spells desc ready.served set number item to s done (overlay_content a) (overlay_content b) db spelt holds target at one may (h told)) linked;
    taken = IfOk-weaker r _ _ (λ done h told. link_stays desc ready.served set number item to s done (overlay_content a) (overlay_content b) at one (h told)) linked;
    below = λ told db spelt. causes told (slot_files desc db (tally_of desc db) (overlay_content a) ready.served (files desc ready.served db (overlay_content a) spelt).slots);
  }
