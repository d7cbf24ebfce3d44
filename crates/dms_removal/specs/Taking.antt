-- A record that may go is taken out: what is left of the content.
use Rattle.std.proofs.Common.{◌≡◌, ◌∙◌, ◌+◌, ◌*◌, ◌<◌, ◌≤◌, ℕ, Bool, true, false, cond, IsTrue, Some, None, refl, sym, ap, subst, length, arith}
use Rattle.std.specs.Prelude.{IfOk}
use Rattle.std.specs.declared.option.Option.{Option}
use Rattle.std.specs.declared.result.Result.{Result}
use Rattle.std.specs.declared.result.Result.TheVariants.{Ok, Err}
use Rattle.std.proofs.lemmas.Result.{IfOk-weaker}
use Rattle.std.specs.FinMap.{get}
use Rattle.dms_block.specs.Content.{Content, counts_after}
use Rattle.dms_block.specs.Held.{HasCausesOr}
use Rattle.dms_block.specs.View.{ReadsOverlay, overlay_content, under}
use Rattle.dms_block.specs.ViewLaws.{seen_still}
use Rattle.dms_chain.specs.SeenLaws.{causes_err, causes_since}
use Rattle.dms_block.specs.declared.block_fault.BlockFault.{BlockFault}
use Rattle.dms_block.specs.declared.blocks.Blocks.{Ghosts}
use Rattle.dms_block.specs.declared.overlay.Overlay.{Overlay}
use Rattle.dms_desc.specs.Files.{file_of}
use Rattle.dms_desc.specs.Lookups.{items_of, structure_of}
use Rattle.dms_desc.specs.Shape.{Shape, Described}
use Rattle.dms_desc.specs.declared.record.Record.{Record}
use Rattle.dms_desc_bytes.specs.Finding.{owner_in as owner_of}
use Rattle.dms_links.specs.Altering.{WritesSlots, causes_after, failed_read, read_alone, read_then, told_writes, writes_more, writes_then, wrote_none}
use Rattle.dms_links.specs.AlteringIn.{is_slot, slot_low, slot_set}
use Rattle.dms_links.specs.Rows.{file_in, rec_in, rec_opt}
use Rattle.dms_links.specs.Taking.{TakesSteps}
use Rattle.dms_layout.specs.declared.slot.Slot.{Slot}
use Rattle.dms_layout.specs.declared.slot.SlotRead.TheVariants.{Free, Used}
use Rattle.dms_slots.specs.Seen.{BadAt, count_of}
use Rattle.dms_slots.specs.SlotBlocks.{block_of, slot_at}
use Rattle.dms_links.specs.Stands.{tally_of}
use Rattle.dms_links.specs.Stepping.{AltersSteps, none_bad_of}
use Rattle.dms_model.specs.Db.{Db}
use Rattle.dms_model.specs.Valid.{owner_stands}
use Rattle.dms_spelling.specs.After.{slot_files, slots_steps, slots_then, stands_after}
use Rattle.dms_spelling.specs.Holds.{have_slots, record_stands}
use Rattle.dms_spelling.specs.Serving.{IsServed}
use Rattle.dms_spelling.specs.Spelled.{database_in}
use Rattle.dms_spelling.specs.Stands.{spell_by}
use Rattle.dms_tally.specs.Counts.{links_stand}
use Rattle.dms_tally.specs.Gone.{LinksStand, MayGo, OwnerStands}
use Rattle.dms_tally.specs.Tally.{without_record}
use Rattle.dms_removal.specs.Freed.{FreesOne, frees_none, frees_then}
use Rattle.dms_removal.specs.Promises.{TakesOut}
use Rattle.dms_spelling.specs.Ready.{FaultsBelow, IfRecord, IsReady}
use Rattle.dms_spelling.specs.Staying.{same_stays, steps_stay}
use Rattle.dms_removal.specs.Releasing.{release_steps, released}
use Rattle.dms_removal.specs.Stripping.{IsStripped, IsUsed, StripsRecord, entries_without}
use Rattle.dms_removal.specs.Using.{files, some_number, some_set, some_slot, spelt_files}

-- What the call promises, where this record stands under the number.
pub record TakesRecord {B : Type 0} {g : Ghosts B} (desc : Described) (set number : ℕ) (rec : Record) (result : Result Bool BlockFault) (a b : Overlay B g) : Type 0 where
  pub writes : WritesSlots (44 * length desc.structures + 62) result a b
  pub taken : IfOk result (λ done. IsTrue (under a).told → FreesOne desc set number (overlay_content a) (overlay_content b))
  pub gone : IfOk result (λ done. IfRecord desc set number rec a (λ db. MayGo desc db set number → (done ≡ true) × (database_in desc (overlay_content b) ≡ Some (without_record db set number))))
  pub below : IfRecord desc set number rec a (λ db. FaultsBelow result a b)

module _ (desc : Described) (served : IsServed desc) (set number : ℕ) (s : Shape) (rec : Record) (db : Db) (c : Content) (at : structure_of desc set ≡ Some s) (spelt : database_in desc c ≡ Some db) (is : get db.records (set, number) ≡ Some rec) where
  its_links : LinksStand desc db.records (set, number) rec
  its_links =
      let r = record_stands desc served db (tally_of desc db) c (files desc served db c spelt).slots (set, number) rec is in
      ap (λ (o : Option Shape). links_stand db.records (items_of o) rec.values) r.is ∙ subst (λ (x : Record). links_stand db.records r.shape.items x.values ≡ true) r.same r.stands.links

  its_owner : OwnerStands desc db.records (set, number) rec
  its_owner =
      let r = record_stands desc served db (tally_of desc db) c (files desc served db c spelt).slots (set, number) rec is in
      ap (λ (o : Option Shape). owner_stands db.records (owner_of o) rec.owner) r.is ∙ subst (λ (x : Record). owner_stands db.records r.shape.owner x.owner ≡ true) r.same r.stands.owner

  -- The content spells the database without it, where its entries were taken out, its slot was freed, and what it counted for is released.
  pub take_spells : (e d : Content) (done : Bool) → MayGo desc db set number → IsStripped desc db set number c e → AltersSteps desc (release_steps s.items s.owner rec) done e d → (done ≡ true) × (database_in desc d ≡ Some (without_record db set number))
  take_spells e d done may stripped h =
      let have = have_slots desc served in
      let after = without_record db set number in
      let before = files desc served db c spelt in
      let r = released desc have db set number s rec at may is its_links its_owner e d done stripped.files h in
      let only = slots_then desc stripped.middle e d stripped.only (slots_steps desc served (release_steps s.items s.owner rec) done e d (slot_files desc after (tally_of desc db) e served stripped.files) h) in
      let all = stands_after desc served after r.1.own c stripped.middle d before.fit stripped.lists only r.1.files (entries_without desc db set number may before.entries) in
      (r.0, spell_by desc after r.1.own d served all r.1.counts)

-- ---- what is promised

-- it stands under its number where its slot was read
pub stands_there : (desc : Described) (served : IsServed desc) (set number : ℕ) (s : Shape) (slot : Slot) (db : Db) (c : Content) → structure_of desc set ≡ Some s → is_slot s number ≡ true → database_in desc c ≡ Some db → slot_at s (file_in c s) number ≡ Used slot → get db.records (set, number) ≡ Some slot.rec
stands_there desc served set number s slot db c at one spelt was =
    (files desc served db c spelt).slots.records set number (slot_low s number one) ∙ ap (λ (u : Option Shape). rec_in c u number) at ∙ ap (λ z. cond z (rec_opt (slot_at s (file_in c s) number)) None) (slot_set s number one) ∙ ap rec_opt was

module _ {B : Type 0} {g : Ghosts B} (desc : Described) (set number : ℕ) (rec : Record) (a : Overlay B g) where
  pub take_failed : (e : BlockFault) (b : Overlay B g) → StripsRecord desc set number rec (Err e) a b → TakesRecord desc set number rec (Err e) a b
  take_failed e b h = record { writes = writes_more (44 * length desc.structures + 1) (44 * length desc.structures + 62) (Err e) a b (omega arith) h.writes; taken = tt; gone = tt; below = h.below }

  pub take_refused : (b : Overlay B g) → StripsRecord desc set number rec (Ok false) a b → TakesRecord desc set number rec (Ok false) a b
  take_refused b h = record {
    writes = writes_more (44 * length desc.structures + 1) (44 * length desc.structures + 62) (Ok false) a b (omega arith) h.writes;
    taken = h.taken;
    gone = λ told db spelt is may. absurd (apart (h.stripped told db spelt is may).0);
    below = h.below;
  }
    where
      apart : false ≡ true → ⊥
      apart h = absurd (cc h)

  pub take_released : (r : Result Bool BlockFault) (s : Shape) (b d : Overlay B g) → ((x y z : B) → g.same_blocks x y → g.same_blocks y z → g.same_blocks x z) → IsServed desc → structure_of desc set ≡ Some s → length s.items ≤ 60 → StripsRecord desc set number rec (Ok true) a b
      → TakesSteps desc (release_steps s.items s.owner rec) (length s.items + 1) r b d → TakesRecord desc set number rec r a d
  take_released r s b d onward served at few h steps = record {
    writes = writes_then (44 * length desc.structures + 1) (length s.items + 1) (44 * length desc.structures + 62) r a b d onward (omega (arith, few)) h.writes steps.writes;
    taken = IfOk-weaker r _ _ (λ done altered told.
        frees_then desc set number (overlay_content a) (overlay_content b) (overlay_content d) (h.taken told)
        (frees_none desc set number (overlay_content b) (overlay_content d) (steps_stay desc (release_steps s.items s.owner rec) done (overlay_content b) (overlay_content d) (have_slots desc served) (altered (told_b told))))) steps.altered;
    gone = IfOk-weaker r _ _ (λ done altered told db spelt is may.
        take_spells desc served set number s rec db (overlay_content a) at spelt is (overlay_content b) (overlay_content d) done may (h.stripped told db spelt is may).1 (altered (told_b told))) steps.altered;
    below = λ told db spelt is. causes_after (44 * length desc.structures + 1) r a b d h.writes (steps.causes (told_b told) (h.files told db spelt is));
  }
    where
      told_b : IsTrue (under a).told → IsTrue (under b).told
      told_b told = told_writes (44 * length desc.structures + 1) a b h.writes told

module _ {B : Type 0} {g : Ghosts B} (desc : Described) (set number : ℕ) (a : Overlay B g) (ready : IsReady desc a) where
  -- there is no such record
  pub out_none : ((b : B) → g.same_blocks b b) → structure_of desc set ≡ None → TakesOut desc set number (Ok false) a a
  out_none again off = record {
    writes = wrote_none (44 * length desc.structures + 62) (Ok false) a again tt refl ready.sound;
    gone = λ told db spelt holds. absurd (some_set desc ready.served db (overlay_content a) spelt set number holds off);
    taken = λ told. frees_none desc set number (overlay_content a) (overlay_content a) (same_stays desc (overlay_content a) (overlay_content a) refl);
    below = λ told db spelt. refl;
  }

  module _ (s : Shape) (at : structure_of desc set ≡ Some s) where
    pub out_off : ((b : B) → g.same_blocks b b) → is_slot s number ≡ false → TakesOut desc set number (Ok false) a a
    out_off again off = record {
      writes = wrote_none (44 * length desc.structures + 62) (Ok false) a again tt refl ready.sound;
      gone = λ told db spelt holds. absurd (some_number desc ready.served db (overlay_content a) spelt set number holds s at off);
      taken = λ told. frees_none desc set number (overlay_content a) (overlay_content a) (same_stays desc (overlay_content a) (overlay_content a) refl);
      below = λ told db spelt. refl;
    }

    module _ (one : is_slot s number ≡ true) where
      pub out_failed : {n : ℕ} {T : Type 0} (e : BlockFault) (b : Overlay B g) → ReadsOverlay {T = T} n (Err e) a b → HasCausesOr {T = T} (BadAt s (block_of s.items number) a) (Err e) (under a) (under b) → TakesOut desc set number (Err e) a b
      out_failed {T = T} e b reads causes = record {
        writes = failed_read (44 * length desc.structures + 62) (BadAt s (block_of s.items number) a) e a b reads causes;
        gone = tt;
        taken = tt;
        below = λ told db spelt.
            causes_err T Bool (BadAt s (block_of s.items number) a) (λ f k. ⊥) e (under a) (under b)
            (λ f k bad. none_bad_of desc a set told (slot_files desc db (tally_of desc db) (overlay_content a) ready.served (spelt_files desc a ready told db spelt).slots) f k (s, at, slot_set s number one, bad.0)) causes;
      }

      module _ {n : ℕ} {T : Type 0} {x : T} (b : Overlay B g) (reads : ReadsOverlay n (Ok x) a b) (causes : (under b).faults ≡ (under a).faults) where
        seen_b : IsTrue (under a).told → overlay_content b ≡ overlay_content a
        seen_b told = seen_still reads told

        told_b : IsTrue (under a).told → IsTrue (under b).told
        told_b told = reads.looks.passes.lasts.told ∙ told

        stay_b : IsTrue (under a).told → FreesOne desc set number (overlay_content a) (overlay_content b)
        stay_b told = frees_none desc set number (overlay_content a) (overlay_content b) (same_stays desc (overlay_content a) (overlay_content b) (seen_b told))

        pub out_free : (IsTrue (under a).told → slot_at s (file_in (overlay_content a) s) number ≡ Free) → TakesOut desc set number (Ok false) a b
        out_free free = record {
          writes = read_alone (44 * length desc.structures + 62) false a b reads causes;
          gone = λ told db spelt holds. absurd (some_slot desc ready.served db (overlay_content a) spelt set number holds s at (free told));
          taken = stay_b;
          below = λ told db spelt. causes;
        }

        pub out_taken : (r : Result Bool BlockFault) (slot : Slot) (d : Overlay B g) → ((x y z : B) → g.same_blocks x y → g.same_blocks y z → g.same_blocks x z) → (IsTrue (under a).told → slot_at s (file_in (overlay_content a) s) number ≡ Used slot) → TakesRecord desc set number slot.rec r b d → TakesOut desc set number r a d
        out_taken r slot d onward was h = record {
          writes = read_then (44 * length desc.structures + 62) r a b d onward reads causes h.writes;
          gone = IfOk-weaker r _ _ (λ done gone told db spelt holds may. gone (told_b told) db (spelt_b told db spelt) (stands_there desc ready.served set number s slot db (overlay_content a) at one spelt (was told)) may) h.gone;
          taken = IfOk-weaker r _ _ (λ done taken told. subst (λ (c : Content). FreesOne desc set number c (overlay_content d)) (seen_b told) (taken (told_b told))) h.taken;
          below = λ told db spelt.
              causes_since (λ f k. ⊥) (λ f k. ⊥) r a b d (λ f k z. z) causes reads (h.below (told_b told) db (spelt_b told db spelt) (stands_there desc ready.served set number s slot db (overlay_content a) at one spelt (was told)));
        }
          where
            spelt_b : IsTrue (under a).told → (db : Db) → database_in desc (overlay_content a) ≡ Some db → database_in desc (overlay_content b) ≡ Some db
            spelt_b told db spelt = ap (database_in desc) (seen_b told) ∙ spelt

-- ---- after a read

module _ {B : Type 0} {g : Ghosts B} {T : Type 0} {x : T} {n : ℕ} (s : Shape) where
  pub counts_since : (k : ℕ) (a b : Overlay B g) → ReadsOverlay n (Ok x) a b → k < count_of s a → k < count_of s b
  counts_since k a b reads low = subst (λ m. k < m) (sym (λ i. counts_after (reads.written_still i) (reads.looks.counts i) (file_of s.number))) low

  pub used_since : (number : ℕ) (slot : Slot) (a b : Overlay B g) → ReadsOverlay n (Ok x) a b → (IsTrue (under a).told → slot_at s (file_in (overlay_content a) s) number ≡ Used slot) → IsTrue (under b).told → IsUsed s number (overlay_content b)
  used_since number slot a b reads was told =
      let before : IsTrue (under a).told = sym reads.looks.passes.lasts.told ∙ told in
      (slot, ap (λ (c : Content). slot_at s (file_in c s) number) (seen_still reads before) ∙ was before)
