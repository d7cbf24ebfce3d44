-- A content that spells a database has the files of the one with a record stored, once the lists and the slot are changed.
use Rattle.std.proofs.Common.{◌≡◌, ◌∙◌, ◌≤◌, ℕ, zero, suc, List, [], ◌∷◌, Bool, true, false, cond, Some, None, refl, sym, ap, subst, length, arith}
use Rattle.std.specs.declared.option.Option.{Option}
use Rattle.std.specs.FinMap.{get}
use Rattle.std.specs.Ordering.{eq_by_cmp}
use Rattle.dms_block.specs.Content.{Content}
use Rattle.dms_desc.specs.Lookups.{items_of, structure_of}
use Rattle.dms_desc.specs.Shape.{Shape, Described}
use Rattle.dms_desc.specs.declared.record.Record.{Record}
use Rattle.dms_desc.specs.declared.structure.Item.{Item}
use Rattle.dms_desc_bytes.specs.Finding.{owner_in as owner_of}
use Rattle.dms_layout.specs.declared.slot.Slot.{Slot}
use Rattle.dms_links.specs.Rows.{file_in, rec_in, rec_opt}
use Rattle.dms_links.specs.Stands.{FileStands, RecordsStand, SlotStands, Tally, tally_of}
use Rattle.dms_links.specs.Steps.{SlotIs, step}
use Rattle.dms_model.specs.Db.{Db, Place, place_cmp}
use Rattle.dms_model.specs.Stores.{with_links_of, linked_from, values_of, kept_owner}
use Rattle.dms_model.specs.Valid.{is_data_set, owner_stands}
use Rattle.dms_desc.specs.Files.{file_of}
use Rattle.dms_slots.specs.SlotBlocks.{slot_at, slot_opt}
use Rattle.dms_spelling.specs.Back.{spelled_files}
use Rattle.dms_spelling.specs.Grown.{grown_lists, grown_slot, grown_start, lists_slot, set_no_list, stands_grown}
use Rattle.dms_spelling.specs.Holds.{RecordStands}
use Rattle.dms_spelling.specs.Serving.{IsServed}
use Rattle.dms_spelling.specs.Spelled.{database_in}
use Rattle.dms_spelling.specs.Stands.{StandsFiles}
use Rattle.dms_store.specs.Finding.{number_at}
use Rattle.dms_store.specs.PuttingAfter.{after_get, counted_none, counted_still, entries_more, links_still, more, owned_none, owner_more, slot_after, slot_links, with_record}
use Rattle.dms_store.specs.PuttingCounts.{stand_linked}
use Rattle.dms_store.specs.PuttingOver.{ListsPut}
use Rattle.dms_store.specs.SpelledLaws.{spelled_stands}
use Rattle.dms_tally.specs.Counts.{counted_in, links_stand, owned_in}

-- ---- definitions

-- a record that its data set may hold under a number
pub record MayStand (desc : Described) (set number : ℕ) (s : Shape) (rec : Record) : Type 0 where
  pub at : structure_of desc set ≡ Some s
  pub is_set : is_data_set (Some s) ≡ true
  pub low : 1 ≤ number
  pub most : number ≤ s.population
  pub long : length rec.values ≡ length s.items

-- a record that is put under a number of a data set, and the slot that stood there
pub record Replaces : Type 0 where
  pub set : ℕ
  pub number : ℕ
  pub shape : Shape
  pub old : Option Slot
  pub rec : Record

-- the database with what is stored for it
abbrev pub db_put : Db → Replaces → Db
db_put db p = with_record db p.set p.number (with_links_of p.shape.items (rec_opt (slot_opt p.old)) p.rec)

-- A content spells a database, and the record may be put: it fits its data set, its slot is this one, and the owner of a new record stands.
pub record MayPut (desc : Described) (db : Db) (p : Replaces) (c : Content) : Type 0 where
  pub served : IsServed desc
  pub spelt : database_in desc c ≡ Some db
  pub may : MayStand desc p.set p.number p.shape p.rec
  pub was : slot_at p.shape (file_in c p.shape) p.number ≡ slot_opt p.old
  pub held : p.old ≡ None → owner_stands db.records p.shape.owner p.rec.owner ≡ true

-- Then the lists of the sets and subsets were changed, and then its slot, which keeps its counts.
pub record PutsRecord (desc : Described) (db : Db) (p : Replaces) (c e d : Content) : Type 0 where
  pub lists : ListsPut desc (db_put db p) c e
  pub change : SlotIs p.shape p.number (Some (slot_after p.shape.items p.old p.rec)) e d

-- ---- the slots after the lists

module _ (desc : Described) (served : IsServed desc) (db : Db) (own : Tally) (c d : Content) (still : (n : ℕ) (s : Shape) → structure_of desc n ≡ Some s → is_data_set (Some s) ≡ true → file_in d s ≡ file_in c s) where
  rec_still : (t n : ℕ) (o : Option Shape) → structure_of desc t ≡ o → rec_in c o n ≡ rec_in d o n
  rec_still t n None is = refl
  rec_still t n (Some s) is = by (is_data_set (Some s)) refl
    where
      by : (b : Bool) → is_data_set (Some s) ≡ b → cond b (rec_opt (slot_at s (file_in c s) n)) None ≡ cond b (rec_opt (slot_at s (file_in d s) n)) None
      by true e = ap (λ (bs : List (List ℕ)). rec_opt (slot_at s bs n)) (sym (still t s is e))
      by false e = refl

  pub stand_still : RecordsStand desc db own c → RecordsStand desc db own d
  stand_still files = record {
    each = λ n s at is_set. subst (λ (bs : List (List ℕ)). FileStands desc db own s bs) (sym (still n s at is_set)) (files.each n s at is_set);
    records = λ t n low. files.records t n low ∙ rec_still t n (structure_of desc t) refl;
    none = files.none;
  }

module _ (desc : Described) (served : IsServed desc) (db : Db) (c e d : Content) (set number : ℕ) (s : Shape) (o : Option Slot) (rec : Record) (spelt : database_in desc c ≡ Some db) (may : MayStand desc set number s rec)
    (was : slot_at s (file_in c s) number ≡ slot_opt o) where
  abbrev made : Record
  made = with_links_of s.items (rec_opt (slot_opt o)) rec

  abbrev after : Db
  after = with_record db set number made

  abbrev base : Tally
  base = tally_of desc db

  files : StandsFiles desc db (tally_of desc db) c
  files = spelled_files desc c db served spelt

  stands : (p : Place) (r : Record) → get db.records p ≡ Some r → RecordStands desc db (tally_of desc db) p r
  stands p r at = spelled_stands desc c db served spelt p r at

  items_are : items_of (structure_of desc set) ≡ s.items
  items_are = ap items_of may.at

  number_is : s.number ≡ set
  number_is = number_at desc set s served may.at

  -- what stood under the number
  pub old_is : get db.records (set, number) ≡ rec_opt (slot_opt o)
  old_is = files.slots.records set number may.low ∙ ap (λ x. rec_in c x number) may.at ∙ ap (λ b. cond b (rec_opt (slot_at s (file_in c s) number)) None) may.is_set ∙ ap rec_opt was

  links_all : (p : Place) (r : Record) → get db.records p ≡ Some r → links_stand db.records (items_of (structure_of desc p.0)) r.values ≡ true
  links_all p r at = let x = stands p r at in ap (λ q. links_stand db.records (items_of q) r.values) x.is ∙ ap (λ (y : Record). links_stand db.records x.shape.items y.values) (sym x.same) ∙ x.stands.links

  owners_all : (p : Place) (r : Record) → get db.records p ≡ Some r → owner_stands db.records (owner_of (structure_of desc p.0)) r.owner ≡ true
  owners_all p r at = let x = stands p r at in ap (λ q. owner_stands db.records (owner_of q) r.owner) x.is ∙ ap (λ (y : Record). owner_stands db.records x.shape.owner y.owner) (sym x.same) ∙ x.stands.owner

  -- as many counted links refer to each record
  pub counted_same : (t m : ℕ) → counted_in desc after t m ≡ counted_in desc db t m
  counted_same t m =
      subst (λ (is : List Item). length rec.values ≡ length is → counted_in desc (with_record db set number (with_links_of is (rec_opt (slot_opt o)) rec)) t m ≡ counted_in desc db t m) items_are
      (λ long. counted_still desc db set number (rec_opt (slot_opt o)) rec old_is long t m) may.long

  -- the links of what is stored, and its counts
  made_links : (x : Option Slot) → rec_opt (slot_opt o) ≡ rec_opt (slot_opt x) → slot_at s (file_in c s) number ≡ slot_opt x → links_stand db.records s.items (linked_from 0 s.items (values_of (rec_opt (slot_opt x))) rec.values) ≡ true
  made_links None same is = stand_linked db.records s.items [] rec.values may.long ∙ none s.items
    where
      none : (is : List Item) → links_stand db.records is [] ≡ true
      none [] = refl
      none (i ∷ is) = refl
  made_links (Some slot) same is =
      stand_linked db.records s.items slot.rec.values rec.values may.long ∙ ((files.slots.each set s may.at may.is_set).slots number slot may.low is).links

  made_counted : (x : Option Slot) → slot_at s (file_in c s) number ≡ slot_opt x → get db.records (set, number) ≡ rec_opt (slot_opt x) → (slot_after s.items x rec).counted ≡ counted_in desc db s.number number
  made_counted None is gone = sym (ap (λ k. counted_in desc db k number) number_is ∙ counted_none desc db set number gone links_all)
  made_counted (Some slot) is there = ((files.slots.each set s may.at may.is_set).slots number slot may.low is).counted

  made_owned : (x : Option Slot) → slot_at s (file_in c s) number ≡ slot_opt x → get db.records (set, number) ≡ rec_opt (slot_opt x) → (slot_after s.items x rec).owned ≡ owned_in desc db s.number number
  made_owned None is gone =
      sym (ap (λ k. owned_in desc db k number) number_is ∙ owned_none desc db set number (low_set set may.at) gone files.entries.each owners_all)
    where
      low_set : (k : ℕ) → structure_of desc k ≡ Some s → 1 ≤ k
      low_set zero h = absurd (cc)
      low_set (suc k) h = omega arith
  made_owned (Some slot) is there = ((files.slots.each set s may.at may.is_set).slots number slot may.low is).owned

  -- the owner that is stored stands: that of a new record, and that which stood
  made_owner : (x : Option Slot) → slot_at s (file_in c s) number ≡ slot_opt x → (x ≡ None → owner_stands db.records s.owner rec.owner ≡ true) → owner_stands db.records s.owner (kept_owner (rec_opt (slot_opt x)) rec.owner) ≡ true
  made_owner None is own = own refl
  made_owner (Some slot) is own = ((files.slots.each set s may.at may.is_set).slots number slot may.low is).owner

  slot_rec : (slot_after s.items o rec).rec ≡ made
  slot_rec = slot_links s.items o rec

  new_stands : (o ≡ None → owner_stands db.records s.owner rec.owner ≡ true) → SlotStands desc after base s number (slot_after s.items o rec)
  new_stands held = record {
    most = may.most;
    owner = ap (λ (r : Record). owner_stands after.records s.owner r.owner) slot_rec ∙ owner_more db set number made s.owner made.owner (made_owner o was held);
    links = ap (λ (r : Record). links_stand after.records s.items r.values) slot_rec ∙ links_still db.records after.records s.items made.values (more db set number made) (made_links o refl was);
    counted = made_counted o was old_is;
    owned = made_owned o was old_is;
  }

  others_stand : (t : Shape) (n : ℕ) (x : Slot) → structure_of desc t.number ≡ Some t → get db.records (t.number, n) ≡ Some x.rec → (t.number ≡ set → n ≡ number → ⊥) → SlotStands desc db base t n x → SlotStands desc after base t n x
  others_stand t n x there record_there apart h = record {
    most = h.most;
    owner = owner_more db set number made t.owner x.rec.owner h.owner;
    links = links_still db.records after.records t.items x.rec.values (more db set number made) h.links;
    counted = h.counted;
    owned = h.owned;
  }

  some_slot : (x y : Slot) → ◌≡◌ {A = Option Slot} (Some x) (Some y) → x ≡ y
  some_slot x y h = cc h

  module _ (held : o ≡ None → owner_stands db.records s.owner rec.owner ≡ true) (lists : ListsPut desc after c e) (change : SlotIs s number (Some (slot_after s.items o rec)) e d) where
    set_still : (n : ℕ) (t : Shape) → structure_of desc n ≡ Some t → is_data_set (Some t) ≡ true → file_in e t ≡ file_in c t
    set_still n t at is_set =
        let mine = number_at desc n t served at in
        ap (λ k. e (file_of k)) mine ∙ lists.still n (set_no_list desc n t at is_set) ∙ ap (λ k. c (file_of k)) (sym mine)

    slots_after : RecordsStand desc after base d
    slots_after =
        step desc served.numbered db after base base e d set number s (Some (slot_after s.items o rec)) may.at may.is_set may.low change
        (λ p. after_get db set number made p ∙ ap (λ (r : Record). cond (eq_by_cmp place_cmp p (set, number)) (Some r) (get db.records p)) (sym slot_rec)) others_stand
        (λ x is. subst (SlotStands desc after base s number) (some_slot (slot_after s.items o rec) x is) (new_stands held))
        (stand_still desc served db base c e set_still files.slots)

    -- The files have the records with that one, and count what each record owned before it.
    pub record_step : StandsFiles desc after (tally_of desc db) d
    record_step =
        let g0 = grown_start desc served db base c files.slots files.fit in
        let g1 = grown_lists desc served c c e lists.still lists.few g0 in
        let g2 = grown_slot desc served c e d set number s (Some (slot_after s.items o rec)) may.at may.most change g1 in
        stands_grown desc served after base c d files.fit slots_after (lists_slot desc served after e d set number s (Some (slot_after s.items o rec)) may.at may.is_set change lists.lists) g2
        (entries_more desc db set number made files.entries)
