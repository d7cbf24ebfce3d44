-- What changed lists and a written slot make of the database that is seen.
use Rattle.std.proofs.Common.{◌≡◌, ◌≢◌, ◌∙◌, ◌^◌, ◌<◌, ◌≤◌, ℕ, suc, [], Bool, true, false, cond, IfSome, IsTrue, IsSome, Some, None, refl, sym, ap, subst, length, arith}
use Rattle.std.specs.Prelude.{◌||◌, ◌==◌, ⊤, is_some, not}
use Rattle.std.specs.List.{list_all}
use Rattle.std.specs.declared.option.Option.{Option}
use Rattle.std.specs.FinMap.{get}
use Rattle.std.proofs.lemmas.Bool.Decides.{nat_tests}
use Rattle.dms_block.specs.declared.blocks.Blocks.{Ghosts}
use Rattle.dms_block.specs.declared.overlay.Overlay.{Overlay}
use Rattle.dms_block.specs.Content.{Content}
use Rattle.dms_block.specs.Held.{BlocksAgree}
use Rattle.dms_block.specs.View.{overlay_content, seen_counts, under, overlay_changes}
use Rattle.dms_block.specs.ViewLaws.{counts_seen}
use Rattle.dms_desc.specs.Files.{file_of}
use Rattle.dms_desc.specs.Fitting.{values_fit}
use Rattle.dms_desc.specs.Lookups.{items_of, structure_of}
use Rattle.dms_desc.specs.Plain.{ArePlain}
use Rattle.dms_desc.specs.Shape.{Shape, Described}
use Rattle.dms_desc.specs.declared.record.Record.{Record}
use Rattle.dms_layout.specs.Slots.{SlotFits, may_own, slot_bytes}
use Rattle.dms_layout.specs.declared.slot.Slot.{Slot}
use Rattle.dms_links.specs.Rows.{rec_opt}
use Rattle.dms_links.specs.Stands.{tally_of}
use Rattle.dms_links.specs.Stepping.{AreSlotFiles}
use Rattle.dms_links.specs.Steps.{SlotIs, slot_written}
use Rattle.dms_model.specs.Db.{Db, Records}
use Rattle.dms_model.specs.Fitting.{AreFitting, RecordFits}
use Rattle.dms_model.specs.Stores.{with_links_of, kept_owner}
use Rattle.dms_model.specs.Valid.{owner_stands}
use Rattle.dms_model.specs.declared.put.Put.{Put}
use Rattle.dms_model.specs.declared.put.Put.TheVariants.{Stored, Duplicate as Refused, Full}
use Rattle.dms_sets.specs.Keeping.{FileStays, Usable}
use Rattle.dms_sets.specs.Told.{OfStructures}
use Rattle.dms_slots.specs.SlotBlocks.{block_of, is_block, slot_at, slot_opt, slot_put}
use Rattle.dms_spelling.specs.Back.{spelled_files}
use Rattle.dms_spelling.specs.Grown.{IsNoList, grown_lists, grown_slot, grown_start, set_no_list}
use Rattle.dms_spelling.specs.Holds.{fit_all, have_slots}
use Rattle.dms_spelling.specs.Serving.{IsServed}
use Rattle.dms_spelling.specs.ServingLaws.{served_at}
use Rattle.dms_spelling.specs.Spelled.{database_in}
use Rattle.dms_spelling.specs.Stands.{StandsFiles}
use Rattle.dms_links.specs.Linking.{structure_here}
use Rattle.dms_store.specs.Finding.{number_at, seen_below}
use Rattle.dms_store.specs.Lifted.{IsUsable}
use Rattle.dms_store.specs.PuttingAfter.{slot_after, slot_links, with_record}
use Rattle.dms_store.specs.PuttingAnswers.{refusal}
use Rattle.dms_store.specs.PuttingLaws.{MayStand, old_is, record_step}
use Rattle.dms_store.specs.PuttingLists.{ListsLeft}
use Rattle.dms_store.specs.PuttingOver.{ListsPut}

-- What is left where a database was told: the record stands under its number, or a structure refuses it.
abbrev pub IsEntered : Described → Db → ℕ → ℕ → Record → Content → Put → Type 0
IsEntered desc db set number made d (Stored n) = (n ≡ number) × (refusal desc db set (Some number) made ≡ None) × (database_in desc d ≡ Some (with_record db set number made))
IsEntered desc db set number made d (Refused s) = refusal desc db set (Some number) made ≡ Some s
IsEntered desc db set number made d Full = ⊥

-- The same before its owner counts the record: the files have the record, and each slot still counts what it counted.
abbrev pub IsUncounted : Described → Db → ℕ → ℕ → Record → Content → Put → Type 0
IsUncounted desc db set number made d (Stored n) = (n ≡ number) × (refusal desc db set (Some number) made ≡ None) × StandsFiles desc (with_record db set number made) (tally_of desc db) d
IsUncounted desc db set number made d (Refused s) = refusal desc db set (Some number) made ≡ Some s
IsUncounted desc db set number made d Full = ⊥

-- where a record is stored
abbrev pub IfStored : Put → Type 0 → Type 0
IfStored (Stored n) P = P
IfStored (Refused s) P = ⊤
IfStored Full P = ⊤

-- the owner of a record stands where it is a new one, or it has none where its data set is disjoint
pub record OwnerStands (db : Db) (s : Shape) (o : Option Slot) (rec : Record) : Type 0 where
  pub stands : o ≡ None → owner_stands db.records s.owner rec.owner ≡ true

-- what is answered where no number is free
abbrev pub IsJudged : Described → Db → ℕ → ℕ → Record → Put → Type 0
IsJudged desc db set number made (Stored n) = ⊥
IsJudged desc db set number made (Refused s) = refusal desc db set (Some number) made ≡ Some s
IsJudged desc db set number made Full = refusal desc db set (Some number) made ≡ None

-- A database was told, and this slot stands under the number.
pub record FindsSlot {B : Type 0} {g : Ghosts B} (desc : Described) (db : Db) (s : Shape) (number : ℕ) (o : Option Slot) (a : Overlay B g) : Type 0 where
  pub told : IsTrue (under a).told
  pub spelt : database_in desc (under a).content ≡ Some db
  pub was : slot_at s (overlay_content a (file_of s.number)) number ≡ slot_opt o

-- A database was told, this slot stands under the number, and that one is what is to be written for the record.
pub record IsPlaced {B : Type 0} {g : Ghosts B} (desc : Described) (db : Db) (s : Shape) (number : ℕ) (o : Option Slot) (rec : Record) (old : Option Record) (slot : Slot) (a : Overlay B g) : Type 0 where
  pub told : IsTrue (under a).told
  pub spelt : database_in desc (under a).content ≡ Some db
  pub was : slot_at s (overlay_content a (file_of s.number)) number ≡ slot_opt o
  pub slots : IfSome o (SlotFits s)
  pub long : length rec.values ≡ length s.items
  pub old_is : rec_opt (slot_opt o) ≡ old
  pub slot_is : slot ≡ slot_after s.items o rec

-- ---- the lists may be asked for

owned_if : {B : Type 0} {g : Ghosts B} (desc : Described) (a : Overlay B g) (n : ℕ) (s : Shape) → IsUsable desc a → structure_of desc n ≡ Some s → Usable a n
owned_if desc a n s usable at = (usable.sound, usable.serves.all n (some_is (structure_of desc n) s at))
  where
    some_is : (o : Option Shape) (s : Shape) → o ≡ Some s → IsSome o
    some_is None s h = absurd (cc h)
    some_is (Some t) s h = refl

pub lists_usable : {B : Type 0} {g : Ghosts B} (desc : Described) (a : Overlay B g) (p : Shape → Bool) → IsUsable desc a → OfStructures desc (λ s. p s ≡ true → Usable a s.number)
lists_usable desc a p usable k s at is =
    let there = structure_here desc.structures k s at in
    let number = number_at desc (suc k) s usable.serves.served there in
    subst (λ n. Usable a n) (sym number) (owned_if desc a (suc k) s usable there)

-- ---- the database that is seen

-- the owner that a record of a data set may have
stands_may : (records : Records) (s : Shape) (owner : ℕ) → owner_stands records s.owner owner ≡ true → may_own s owner ≡ true
stands_may records s owner h = by (s.owner == 0) h
  where
    by : (b : Bool) → cond b (owner == 0) (is_some (get records (s.owner, owner))) ≡ true → (not b || (owner == 0)) ≡ true
    by true e = e
    by false e = refl

pub owned_may : (s : Shape) (owner : ℕ) → s.owner ≢ 0 → may_own s owner ≡ true
owned_may s owner apart = let off : (s.owner == 0) ≡ false = grind (arith, nat_tests, apart) in ap (λ b. not b || (owner == 0)) off

slot_fits : (desc : Described) (set : ℕ) (s : Shape) (x : Slot) (made : Record) → structure_of desc set ≡ Some s → x.rec ≡ made → RecordFits desc set made → may_own s made.owner ≡ true → x.counted < 2 ^ 32 → x.owned < 2 ^ 32 → SlotFits s x
slot_fits desc set s x made at same fits own counted owned =
    let f : AreFitting s.items made.values = subst (λ (q : Option Shape). AreFitting (items_of q) made.values) at fits.values in
    record {
      owner = subst (λ (r : Record). r.owner < 2 ^ 32) (sym same) fits.owner;
      disjoint = ap (λ (r : Record). may_own s r.owner) same ∙ own;
      counted = counted;
      owned = owned;
      values = ap (λ (r : Record). values_fit s.items r.values) same ∙ fit_all s.items made.values f.lengths f.fit;
      plain = subst (λ (r : Record). ArePlain r.values) (sym same) f.plain;
    }

counts_small : (s : Shape) (o : Option Slot) (rec : Record) → IfSome o (SlotFits s) → ((slot_after s.items o rec).counted < 2 ^ 32) × ((slot_after s.items o rec).owned < 2 ^ 32)
counts_small s None rec f = (omega arith, omega arith)
counts_small s (Some old) rec f = (f.counted, f.owned)

module _ {B : Type 0} {g : Ghosts B} (desc : Described) (served : IsServed desc) (s : Shape) (set number : ℕ) (o : Option Slot) (rec : Record) (db : Db) (a : Overlay B g) (told : IsTrue (under a).told) (agrees : BlocksAgree (under a)) (none : overlay_changes a ≡ [])
    (spelt : database_in desc (under a).content ≡ Some db) (may : MayStand desc set number s rec) (was : slot_at s (overlay_content a (file_of s.number)) number ≡ slot_opt o) (fits : RecordFits desc set (with_links_of s.items (rec_opt (slot_opt o)) rec)) where
  abbrev made : Record
  made = with_links_of s.items (rec_opt (slot_opt o)) rec

  spelt_seen : database_in desc (overlay_content a) ≡ Some db
  spelt_seen = ap (database_in desc) (seen_below a none) ∙ spelt

  files : StandsFiles desc db (tally_of desc db) (overlay_content a)
  files = spelled_files desc (overlay_content a) db served spelt_seen

  pub blocks_good : list_all (is_block s) (overlay_content a (file_of s.number)) ≡ true
  blocks_good = (files.slots.each set s may.at may.is_set).blocks

  -- what stands under the number
  pub record_was : get db.records (set, number) ≡ rec_opt (slot_opt o)
  record_was = old_is desc served db (overlay_content a) (overlay_content a) (overlay_content a) set number s o rec spelt_seen may was

  -- what is stored may have its owner
  made_may : (x : Option Slot) → (x ≡ None → may_own s rec.owner ≡ true) → IfSome x (SlotFits s) → may_own s (kept_owner (rec_opt (slot_opt x)) rec.owner) ≡ true
  made_may None own f = own refl
  made_may (Some slot) own f = f.disjoint

  pub small : number < 2 ^ 32
  small = omega (arith, may.most, (served_at desc set s served may.at).population)

  module _ (b z : Overlay B g) (stays : (k : ℕ) → IsNoList desc k → FileStays k a b) (slots : IfSome o (SlotFits s)) (next : block_of s.items number ≤ seen_counts a (file_of s.number)) where
    number_is : s.number ≡ set
    number_is = number_at desc set s served may.at

    own_here : structure_of desc s.number ≡ Some s
    own_here = ap (structure_of desc) number_is ∙ may.at

    -- the file of the data set is as it was
    pub same_file : overlay_content b (file_of s.number) ≡ overlay_content a (file_of s.number)
    same_file = (stays s.number (set_no_list desc s.number s own_here may.is_set)).1 told

    change : (o ≡ None → may_own s rec.owner ≡ true) → SlotIs s number (Some (slot_after s.items o rec)) (overlay_content b) (slot_put s number (slot_bytes s.items (slot_after s.items o rec)) (overlay_content b))
    change own =
        let counts = counts_small s o rec slots in
        let have = have_slots desc served in
        let long : seen_counts a (file_of s.number) ≡ length (overlay_content a (file_of s.number)) = counts_seen a agrees told (file_of s.number) in
        slot_written s number (overlay_content b) (have.sized set s may.at) may.low (omega (arith, next, long, ap length same_file)) (ap (list_all (is_block s)) same_file ∙ blocks_good)
        (slot_after s.items o rec) (have.kinds set s may.at)
        (slot_fits desc set s (slot_after s.items o rec) made may.at (slot_links s.items o rec) fits (made_may o own slots) counts.0 counts.1)

    -- the files of data sets are still blocks of slots
    pub slots_after : s.owner ≢ 0 → ListsPut desc (with_record db set number made) (overlay_content a) (overlay_content b) → overlay_content z ≡ slot_put s number (slot_bytes s.items (slot_after s.items o rec)) (overlay_content b) → AreSlotFiles desc (overlay_content z)
    slots_after apart lists is =
        let c = overlay_content a in
        let g0 = grown_start desc served db (tally_of desc db) c files.slots files.fit in
        let g1 = grown_lists desc served c c (overlay_content b) lists.still lists.few g0 in
        let d = slot_put s number (slot_bytes s.items (slot_after s.items o rec)) (overlay_content b) in
        let g2 = grown_slot desc served c (overlay_content b) d set number s (Some (slot_after s.items o rec)) may.at may.most (change (λ none. owned_may s rec.owner apart)) g1 in
        subst (AreSlotFiles desc) (sym is) (record { have = have_slots desc served; each = g2.slots })

    -- the record stands under its number
    pub leaves_uncounted : OwnerStands db s o rec → (answer : Option ℕ) → ListsLeft desc db set number made (overlay_content a) (overlay_content b) answer → answer ≡ None → overlay_content z ≡ slot_put s number (slot_bytes s.items (slot_after s.items o rec)) (overlay_content b)
        → IsUncounted desc db set number made (overlay_content z) (Stored number)
    leaves_uncounted owner answer left done is = (
      refl,
      sym left.answer_is ∙ done,
      record_step desc served db (overlay_content a) (overlay_content b) (overlay_content z) set number s o rec spelt_seen may was owner.stands (left.lists done)
          (subst (λ (c : Content). SlotIs s number (Some (slot_after s.items o rec)) (overlay_content b) c) (sym is) (change (λ fresh. stands_may db.records s rec.owner (owner.stands fresh)))),
    )

  -- or a structure refuses it
  pub refusal_leaves : (b : Overlay B g) (answer : Option ℕ) (k : ℕ) → ListsLeft desc db set number made (overlay_content a) (overlay_content b) answer → answer ≡ Some k → IsUncounted desc db set number made (overlay_content b) (Refused k)
  refusal_leaves b answer k left is = sym left.answer_is ∙ is
