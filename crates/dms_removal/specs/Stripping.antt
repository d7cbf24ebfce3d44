-- A record is taken out of the lists of the sets over its data set, and its slot is made free.
use Rattle.std.proofs.Common.{◌≡◌, ◌≢◌, ◌∙◌, ◌+◌, ◌*◌, ◌≤◌, ℕ, suc, max, List, [], ◌∷◌, Bool, true, false, cond, IsTrue, Some, None, refl, sym, ap, subst, length, replicate, arith}
use Rattle.std.specs.Prelude.{◌&&◌, ◌||◌, ◌==◌, IfOk, is_some}
use Rattle.std.specs.List.{AllByRecursion, list_all, list_any}
use Rattle.std.specs.declared.result.Result.{Result}
use Rattle.std.specs.FinMap.{get, get-remove}
use Rattle.std.specs.Ordering.{eq_by_cmp}
use Rattle.std.proofs.lemmas.Bool.{and_parts}
use Rattle.std.proofs.lemmas.Bool.Decides.{nat_tests}
use Rattle.std.proofs.lemmas.Option.{same_Some}
use Rattle.dms_block.specs.Content.{Content, with_block}
use Rattle.dms_block.specs.ContentLaws.{in_file, in_others, laid_length}
use Rattle.dms_block.specs.View.{overlay_content, under}
use Rattle.dms_block.specs.declared.block_fault.BlockFault.{BlockFault}
use Rattle.dms_block.specs.declared.blocks.Blocks.{Ghosts}
use Rattle.dms_block.specs.declared.overlay.Overlay.{Overlay}
use Rattle.dms_desc.specs.Files.{file_of}
use Rattle.dms_desc.specs.Kinds.{over}
use Rattle.dms_desc.specs.Lookups.{over_of, structure_of}
use Rattle.dms_desc.specs.Shape.{Shape, Described}
use Rattle.dms_desc.specs.declared.record.Record.{Record}
use Rattle.dms_desc_bytes.specs.Finding.{owner_in as owner_of}
use Rattle.dms_layout.specs.Slots.{slot_width}
use Rattle.dms_layout.specs.declared.slot.Slot.{Slot}
use Rattle.dms_layout.specs.declared.slot.SlotRead.TheVariants.{Used, Bad}
use Rattle.dms_links.specs.Altering.{WritesSlots}
use Rattle.dms_links.specs.AlteringIn.{is_slot, slot_low, slot_most, slot_set}
use Rattle.dms_links.specs.Linking.{number_at, structure_here}
use Rattle.dms_links.specs.Removing.{freed}
use Rattle.dms_links.specs.Rows.{file_in}
use Rattle.dms_links.specs.Stands.{RecordsStand, tally_of}
use Rattle.dms_links.specs.Stepping.{AreSlotFiles}
use Rattle.dms_links.specs.Steps.{SlotIs}
use Rattle.dms_lists.specs.Forms.{form_of}
use Rattle.dms_manual.specs.Listed.{SameIn, manual_still}
use Rattle.dms_manual.specs.Naming.{AreManual}
use Rattle.dms_model.specs.Db.{Db, SubsetEntry, place_cmp}
use Rattle.dms_model.specs.Places.{places_total}
use Rattle.dms_model.specs.Uses.{is_entered, owns_entry}
use Rattle.dms_model.specs.Valid.{EntryStands, is_data_set, is_manual, owner_stands}
use Rattle.dms_model.specs.Members.{names}
use Rattle.dms_sets.specs.Changes.{has_number, is_over}
use Rattle.dms_sets.specs.Keeping.{Calm, seen_list}
use Rattle.dms_sets.specs.KeepingLaws.{listed_still}
use Rattle.dms_sets.specs.Padded.{entry_width}
use Rattle.dms_sets.specs.Sets.{kinds_over}
use Rattle.dms_sets.specs.Told.{AreListed}
use Rattle.dms_slots.specs.FileWritten.{all_good, put_blocks, put_free, put_other, some_slot}
use Rattle.dms_slots.specs.SlotBlocks.{MayPutSlot, block_of, is_block, slot_at, slot_put}
use Rattle.dms_spelling.specs.After.{AreOfLists, ListsAre, SlotsOnly, is_listed, lists_are, records_still, slot_files, slots_one}
use Rattle.dms_spelling.specs.Grown.{are_manual, not_over, over_off, set_no_list}
use Rattle.dms_spelling.specs.Serving.{IsServed}
use Rattle.dms_spelling.specs.ServingLaws.{served_at}
use Rattle.dms_spelling.specs.Spelled.{database_in}
use Rattle.dms_spelling.specs.Stands.{EntriesStand, StandsFiles}
use Rattle.dms_tally.specs.Gone.{MayGo, unused}
use Rattle.dms_tally.specs.Tally.{without_record}
use Rattle.dms_removal.specs.Freed.{FreesOne, zeros_fine}
use Rattle.dms_spelling.specs.Ready.{FaultsBelow, IfRecord, IsReady}
use Rattle.dms_removal.specs.Using.{spelt_files}

-- ---- definitions

-- the lists are those of the database without a record, and slots have its records, but count what they counted
pub record IsStripped (desc : Described) (db : Db) (set number : ℕ) (c d : Content) : Type 0 where
  pub middle : Content
  pub lists : ListsAre desc (without_record db set number) c middle
  pub only : SlotsOnly desc middle d
  pub files : RecordsStand desc (without_record db set number) (tally_of desc db) d

-- a record stands in the slot
abbrev pub IsUsed : Shape → ℕ → Content → Type 0
IsUsed s number c = (x : Slot) × (slot_at s (file_in c s) number ≡ Used x)

-- What the call promises, where this record stands under the number.
pub record StripsRecord {B : Type 0} {g : Ghosts B} (desc : Described) (set number : ℕ) (rec : Record) (result : Result Bool BlockFault) (a b : Overlay B g) : Type 0 where
  pub writes : WritesSlots (44 * length desc.structures + 1) result a b
  pub taken : IfOk result (λ done. IsTrue (under a).told → FreesOne desc set number (overlay_content a) (overlay_content b))
  pub files : IfOk result (λ done. IfRecord desc set number rec a (λ db. AreSlotFiles desc (overlay_content b)))
  pub stripped : IfOk result (λ done. IfRecord desc set number rec a (λ db. MayGo desc db set number → (done ≡ true) × IsStripped desc db set number (overlay_content a) (overlay_content b)))
  pub below : IfRecord desc set number rec a (λ db. FaultsBelow result a b)

-- ---- the sets over a data set

over_listed : (s : Shape) (set : ℕ) → is_listed (Some s) ≡ false → is_over s set ≡ false
over_listed s set h = grind (arith, nat_tests, h)

over_manual : (s : Shape) (set : ℕ) → is_manual (Some s) ≡ true → is_over s set ≡ false
over_manual s set h = grind (arith, nat_tests, h)

module _ (desc : Described) (served : IsServed desc) (set : ℕ) where
  pub of_lists : AreOfLists desc (has_number desc.structures set)
  of_lists n off = over_off desc served set n (λ t at. over_listed t set (sym (ap is_listed at) ∙ off))

  manual_off : (n : ℕ) (s : Shape) → structure_of desc n ≡ Some s → is_manual (Some s) ≡ true → has_number desc.structures set n ≡ false
  manual_off n s at manual = over_off desc served set n (λ t there. over_manual t set (ap (λ (x : Shape). is_manual (Some x)) (sym (same_Some s t (sym at ∙ there))) ∙ manual))

  pub set_off : (n : ℕ) (s : Shape) → structure_of desc n ≡ Some s → is_data_set (Some s) ≡ true → has_number desc.structures set n ≡ false
  set_off n s at is = not_over desc served set n (set_no_list desc n s at is)

-- ---- entries of manual subsets, without a record that isn't in use

none_in : (p : SubsetEntry → Bool) (es : List SubsetEntry) → list_any p es ≡ false → (e : SubsetEntry) (rest : List SubsetEntry) → es ≡ e ∷ rest → (p e ≡ false) × (list_any p rest ≡ false)
none_in p es off e rest is = parts (p e) (list_any p rest) (sym (ap (list_any p) is) ∙ off)
  where
    parts : (a b : Bool) → (a || b) ≡ false → (a ≡ false) × (b ≡ false)
    parts true b h = absurd (cc h)
    parts false b h = (refl, h)

module _ (desc : Described) (db : Db) (set number : ℕ) (may : MayGo desc db set number) where
  abbrev after : Db
  after = without_record db set number

  -- another place
  off_place : (t n : ℕ) → ((t == set) && (n == number)) ≡ false → eq_by_cmp place_cmp (t, n) (set, number) ≡ false
  off_place t n off = grind (arith, nat_tests, off)

  left_at : (t n : ℕ) → ((t == set) && (n == number)) ≡ false → get after.records (t, n) ≡ get db.records (t, n)
  left_at t n off = get-remove places_total db.records (set, number) (t, n) ∙ ap (λ b. cond b None (get db.records (t, n))) (off_place t n off)

  owner_left : (t n : ℕ) → ((t == set) && (n == number)) ≡ false → owner_stands db.records t n ≡ true → owner_stands after.records t n ≡ true
  owner_left t n off h = by (t == 0) h
    where
      by : (b : Bool) → cond b (n == 0) (is_some (get db.records (t, n))) ≡ true → cond b (n == 0) (is_some (get after.records (t, n))) ≡ true
      by true k = k
      by false k = ap is_some (left_at t n off) ∙ k

  entries_left : (es : List SubsetEntry) → list_any (is_entered desc set number) es ≡ false → list_any (owns_entry desc set number) es ≡ false → AllByRecursion (EntryStands desc db) es → AllByRecursion (EntryStands desc after) es
  entries_left [] named owned all = tt
  entries_left (e ∷ es) named owned all =
      let n = none_in (is_entered desc set number) (e ∷ es) named e es refl in
      let o = none_in (owns_entry desc set number) (e ∷ es) owned e es refl in (
        record {
          manual = all.0.manual;
          member = ap is_some (left_at (over_of (structure_of desc e.subset)) e.number n.0) ∙ all.0.member;
          owner = owner_left (owner_of (structure_of desc e.subset)) e.owner o.0 all.0.owner;
        },
        entries_left es n.1 o.1 all.1,
      )

  -- Each entry stands without it.
  pub entries_without : EntriesStand desc db → EntriesStand desc after
  entries_without stand =
      let free = unused desc db set number may.free in
      record { each = entries_left db.entries free.entered free.entries stand.each; rising = stand.rising; few = stand.few }

  any_names : (s : Shape) (o n : ℕ) (es : List SubsetEntry) → structure_of desc s.number ≡ Some s → over s ≡ s.set → list_any (is_entered desc set number) es ≡ false → list_any (names s.number o n) es ≡ true → ((s.set == set) && (n == number)) ≡ false
  any_names s o n [] at own off h = absurd (cc h)
  any_names s o n (e ∷ es) at own off h =
      let parts = none_in (is_entered desc set number) (e ∷ es) off e es refl in
      by (names s.number o n e) refl parts.0 (λ k. any_names s o n es at own parts.1 k) h
    where
      by : (b : Bool) → names s.number o n e ≡ b → is_entered desc set number e ≡ false → (list_any (names s.number o n) es ≡ true → ((s.set == set) && (n == number)) ≡ false) → (b || list_any (names s.number o n) es) ≡ true → ((s.set == set) && (n == number)) ≡ false
      by false is off rest k = rest k
      by true is off rest k =
          let subset : e.subset ≡ s.number = grind (arith, nat_tests, is) in
          let its : e.number ≡ n = grind (arith, nat_tests, is) in
          let of : over_of (structure_of desc e.subset) ≡ s.set = ap (λ m. over_of (structure_of desc m)) subset ∙ ap over_of at ∙ own in
          sym (λ i. (of i == set) && (its i == number)) ∙ off

  -- The lists of manual subsets are those without it.
  pub same_without : (s : Shape) → structure_of desc s.number ≡ Some s → is_manual (Some s) ≡ true → SameIn s db after
  same_without s at manual = record {
    entered = λ o n. refl;
    records = λ o n has. left_at s.set n (any_names s o n db.entries at (own s manual) (unused desc db set number may.free).entered has);
  }
    where
      own : (t : Shape) → is_manual (Some t) ≡ true → over t ≡ t.set
      own t h = grind (arith, nat_tests, h)

-- ---- a slot made free

-- one that is used may be written
pub may_put : (desc : Described) (served : IsServed desc) (set number : ℕ) (s : Shape) (c : Content) → structure_of desc set ≡ Some s → is_slot s number ≡ true → block_of s.items number ≤ length (file_in c s) → (slot_at s (file_in c s) number ≢ Bad) → MayPutSlot s c number
may_put desc served set number s c at one next good = record { fits = (served_at desc set s served at).fits; low = slot_low s number one; next = next; sound = good }

few_laid : (c : Content) (f b : ℕ) (x : List ℕ) → b ≤ length (c f) → length (with_block c f b x f) ≤ max (length (c f)) (b + 1)
few_laid c f b x le = omega (arith, ap length (in_file c f b x), laid_length b x (c f) le)

pub freed_slot : (s : Shape) (number : ℕ) (c : Content) → MayPutSlot s c number → list_all (is_block s) (file_in c s) ≡ true → SlotIs s number None c (slot_put s number (replicate (slot_width s.items) 0) c)
freed_slot s number c may all =
    let zeros = replicate (slot_width s.items) 0 in
    record {
      here = put_free s c number may;
      others = λ n one apart. put_other s c number zeros may (zeros_fine s) n one apart;
      blocks = put_blocks s c number zeros may (zeros_fine s) all;
      files = λ f apart. in_others c (file_of s.number) (block_of s.items number) _ f apart;
      few = few_laid c (file_of s.number) (block_of s.items number) _ may.next;
    }

-- ---- a change of the sets, and then the slot

module _ {B : Type 0} {g : Ghosts B} (desc : Described) (set number : ℕ) (s : Shape) (k : ℕ) (a e : Overlay B g) (ready : IsReady desc a) (at : structure_of desc set ≡ Some s) (one : is_slot s number ≡ true) (told : IsTrue (under a).told) (calm : Calm (has_number desc.structures set) k a e) where
  -- no data set's file was changed
  pub set_still : (n : ℕ) (t : Shape) → structure_of desc n ≡ Some t → is_data_set (Some t) ≡ true → file_in (overlay_content e) t ≡ file_in (overlay_content a) t
  set_still n t there is =
      let number_t = number_at desc ready.served.numbered n t there in
      (calm.others t.number (ap (has_number desc.structures set) number_t ∙ set_off desc ready.served set n t there is)).1 told

  own_file : file_in (overlay_content e) s ≡ file_in (overlay_content a) s
  own_file = set_still set s at (slot_set s number one)

  module _ (db : Db) (spelt : database_in desc (overlay_content a) ≡ Some db) where
    abbrev before : StandsFiles desc db (tally_of desc db) (overlay_content a)
    before = spelt_files desc a ready told db spelt

    -- the slots have the records that they had
    pub still_records : RecordsStand desc db (tally_of desc db) (overlay_content e)
    still_records = records_still desc (overlay_content a) (overlay_content e) set_still db (tally_of desc db) before.slots

    pub still_files : AreSlotFiles desc (overlay_content e)
    still_files = slot_files desc db (tally_of desc db) (overlay_content e) ready.served still_records

    -- the lists are those without the record
    pub stripped_lists : MayGo desc db set number → AreListed desc (without_record db set number) (seen_list e) → ListsAre desc (without_record db set number) (overlay_content a) (overlay_content e)
    stripped_lists may listed = lists_are desc ready.served (without_record db set number) (has_number desc.structures set) k a e told (of_lists desc ready.served set) calm listed manual
      where
        manual : (t : ℕ) → AreManual desc (without_record db set number) t (seen_list e)
        manual t j u there own =
            let here = structure_here desc.structures j u there in
            let mine = number_at desc ready.served.numbered (suc j) u here in
            let kind : is_manual (Some u) ≡ true = (and_parts (u.kind == 5) (u.set == t) own).0 in
            let off = ap (has_number desc.structures set) mine ∙ manual_off desc ready.served set (suc j) u here kind in
            listed_still a e u.number (form_of u) (entry_width (kinds_over desc u) u.parts) calm.told (calm.others u.number off)
            ∙ are_manual desc ready.served db t a told before.lists before.fit j u there own
            ∙ ap (λ (xs : List (List ℕ)). Some xs) (sym (manual_still desc u db (without_record db set number) (same_without desc db set number may u (ap (structure_of desc) mine ∙ here) kind)))

    module _ (d : Content) (next : block_of s.items number ≤ length (file_in (overlay_content e) s)) (is : d ≡ slot_put s number (replicate (slot_width s.items) 0) (overlay_content e)) where
      may_free : MayPutSlot s (overlay_content e) number
      may_free =
          let per = some_slot (slot_width s.items) (served_at desc set s ready.served at).fits (omega arith) in
          may_put desc ready.served set number s (overlay_content e) at one next (all_good s (file_in (overlay_content e) s) number per (still_files.each set s at (slot_set s number one)))

      pub freed_change : SlotIs s number None (overlay_content e) d
      freed_change = subst (λ (x : Content). SlotIs s number None (overlay_content e) x) (sym is) (freed_slot s number (overlay_content e) may_free (still_files.each set s at (slot_set s number one)))

      pub is_stripped : MayGo desc db set number → AreListed desc (without_record db set number) (seen_list e) → IsStripped desc db set number (overlay_content a) d
      is_stripped may listed = record {
        middle = overlay_content e;
        lists = stripped_lists may listed;
        only = slots_one desc ready.served set number s None (overlay_content e) d at (slot_set s number one) (slot_most s number one) freed_change;
        files = freed desc ready.served.numbered db (tally_of desc db) (overlay_content e) d set number s at (slot_set s number one) (slot_low s number one) freed_change may still_records;
      }
