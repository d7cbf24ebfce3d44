-- The slots of owners, after they count the records that they own.
use Rattle.std.proofs.Common.{◌≡◌, ◌≢◌, ◌∙◌, ◌+◌, ◌-◌, ◌^◌, ◌<◌, ℕ, Bool, true, false, cond, Some, None, refl, sym, ap, subst, arith}
use Rattle.std.specs.Prelude.{◌==◌, is_some}
use Rattle.std.specs.declared.option.Option.{Option}
use Rattle.std.specs.FinMap.{get}
use Rattle.std.proofs.lemmas.Bool.Decides.{nat_tests}
use Rattle.dms_block.specs.Content.{Content}
use Rattle.dms_desc.specs.Lookups.{structure_of}
use Rattle.dms_desc.specs.Shape.{Shape, Described}
use Rattle.dms_desc.specs.declared.record.Record.{Record}
use Rattle.dms_desc_bytes.specs.Finding.{owner_in as owner_of}
use Rattle.dms_layout.specs.declared.slot.Slot.{Slot}
use Rattle.dms_links.specs.Altered.{with_owned}
use Rattle.dms_links.specs.AlteredLaws.{slot_owned}
use Rattle.dms_links.specs.AlteringIn.{AltersIn}
use Rattle.dms_links.specs.Linking.{number_at}
use Rattle.dms_links.specs.Rows.{file_in, rec_opt}
use Rattle.dms_links.specs.Standing.{is_of, made as made_slot, slot_there}
use Rattle.dms_links.specs.Stands.{Counts, RecordsStand, Tally, tally_of}
use Rattle.dms_links.specs.declared.altering.SlotChange.TheVariants.{Owned}
use Rattle.dms_model.specs.Db.{Db}
use Rattle.dms_model.specs.Stores.{kept_owner, with_links_of}
use Rattle.dms_model.specs.Valid.{owner_stands}
use Rattle.dms_slots.specs.SlotBlocks.{slot_at, slot_opt}
use Rattle.dms_spelling.specs.Back.{spelled_files}
use Rattle.dms_spelling.specs.Few.{has_room}
use Rattle.dms_spelling.specs.Grown.{stands_altered}
use Rattle.dms_spelling.specs.Holds.{have_slots}
use Rattle.dms_spelling.specs.Serving.{IsServed}
use Rattle.dms_spelling.specs.Spelled.{database_in}
use Rattle.dms_spelling.specs.Stands.{StandsFiles, spell_by}
use Rattle.dms_store.specs.PuttingAfter.{owned_moved, owner_more, with_record}
use Rattle.dms_store.specs.PuttingLaws.{MayStand, Replaces, counted_same, old_is}
use Rattle.dms_store.specs.PuttingMoved.{owed_opt, owner_kept, owners_after, owners_are, own_one_more, owns_one}
use Rattle.dms_tally.specs.Counts.{owned_in}
use Rattle.dms_tally.specs.Sums.{of_opt}

-- ---- definitions

-- the owner of the record in a slot
abbrev pub owner_opt : Option Slot → Option ℕ
owner_opt None = None
owner_opt (Some slot) = Some slot.rec.owner

-- What is asked of the count of an owner in the data set `to`, before a new record raises it: the owner stands, and has room for one more.
pub record MayCount (db : Db) (own : Tally) (to owner : ℕ) : Type 0 where
  pub stands : owner_stands db.records to owner ≡ true
  pub room : own.owned to owner + 1 < 2 ^ 32

-- The counts after a record was stored in a data set that stands in the data set `to`, or in none where this is 0.
abbrev pub tally_after : Tally → ℕ → Option ℕ → ℕ → Tally
tally_after own to old owner = record own { owned = owners_after own.owned to old owner }

-- those after a record was put
abbrev pub tally_put : Described → Db → Replaces → Tally
tally_put desc db p = tally_after (tally_of desc db) p.shape.owner (owner_opt p.old) p.rec.owner

-- ---- one count

module _ (desc : Described) (served : IsServed desc) (db : Db) (own : Tally) (c : Content) (files : StandsFiles desc db own c) (set owner : ℕ) (some : set ≢ 0) (may : MayCount db own set owner) where
  off_zero : (set == 0) ≡ false
  off_zero = grind (arith, nat_tests, some)

  stands : is_some (get db.records (set, owner)) ≡ true
  stands = sym (ap (λ b. cond b (owner == 0) (is_some (get db.records (set, owner)))) off_zero) ∙ may.stands

  counts_are : record own { owned = own_one_more own.owned set owner } ≡ tally_after own set None owner
  counts_are = sym (ap (λ b. record own { owned = cond b own.owned (own_one_more own.owned set owner) }) off_zero)

  -- The slot of an owner that stands is raised.
  pub counts : (done : Bool) (d : Content) → AltersIn desc set owner Owned c d done → (done ≡ true) × StandsFiles desc db (tally_after own set None owner) d
  counts done d h =
      let have = have_slots desc served in
      let there = slot_there desc db own c files.slots set owner stands in
      let is : there.slot.owned ≡ own.owned set owner = there.stands.owned ∙ ap (λ t. own.owned t owner) (number_at desc have.numbered set there.shape there.at) in
      let room = may.room in
      let off : (there.slot.owned == 2 ^ 32 - 1) ≡ false = grind (arith, nat_tests, is, room) in
      let next = with_owned (there.slot.owned + 1) there.slot in
      let a = made_slot desc db own c d have files.slots set owner stands Owned next done (ap (λ b. cond b None (Some next)) off) h in
      let slots : RecordsStand desc db (record own { owned = own_one_more own.owned set owner }) d =
      slot_owned desc db own c d set owner there.shape (is_of desc db own c d have files.slots set owner stands) Owned files.slots a.1 a.1.is_next in
      (a.0, stands_altered desc served db own (tally_after own set None owner) c d set owner Owned done files h (subst (λ (k : Tally). RecordsStand desc db k d) counts_are slots))

-- where nothing is to be counted
pub counts_none : (own : Tally) (set owner : ℕ) → set ≡ 0 → own ≡ tally_after own set None owner
counts_none own set owner none = let on : (set == 0) ≡ true = grind (arith, nat_tests, none) in sym (ap (λ b. record own { owned = cond b own.owned (own_one_more own.owned set owner) }) on)

-- ---- the database with the record

module _ (desc : Described) (served : IsServed desc) (db : Db) (c : Content) (set number : ℕ) (s : Shape) (o : Option Slot) (rec : Record) (spelt : database_in desc c ≡ Some db) (may : MayStand desc set number s rec)
    (was : slot_at s (file_in c s) number ≡ slot_opt o) where
  abbrev made : Record
  made = with_links_of s.items (rec_opt (slot_opt o)) rec

  abbrev after : Db
  after = with_record db set number made

  old_owed : (x : Option Slot) (t m : ℕ) → of_opt (λ r. owns_one s.owner r.owner t m) (rec_opt (slot_opt x)) ≡ owed_opt s.owner (owner_opt x) t m
  old_owed None t m = refl
  old_owed (Some slot) t m = refl

  owner_is : (x : Option Slot) → kept_owner (rec_opt (slot_opt x)) rec.owner ≡ owner_kept (owner_opt x) rec.owner
  owner_is None = refl
  owner_is (Some slot) = refl

  -- what storing the record moves
  one_moved : (t m : ℕ) → owned_in desc after t m + owed_opt s.owner (owner_opt o) t m ≡ owned_in desc db t m + owns_one s.owner (owner_kept (owner_opt o) rec.owner) t m
  one_moved t m =
      let there = old_is desc served db c c c set number s o rec spelt may was in
      let to : owner_of (structure_of desc set) ≡ s.owner = ap owner_of may.at in
      let before : of_opt (λ r. owns_one (owner_of (structure_of desc set)) r.owner t m) (get db.records (set, number)) ≡ owed_opt s.owner (owner_opt o) t m =
      (λ i. of_opt (λ r. owns_one (to i) r.owner t m) (there i)) ∙ old_owed o t m in
      let now : owns_one (owner_of (structure_of desc set)) made.owner t m ≡ owns_one s.owner (owner_kept (owner_opt o) rec.owner) t m = (λ i. owns_one (to i) (owner_is o i) t m) in
      omega (arith, owned_moved desc db set number made t m, before, now)

  -- The owner may count a new record.
  pub may_count : owner_stands db.records s.owner rec.owner ≡ true → MayCount after (tally_of desc db) s.owner rec.owner
  may_count held = record {
    stands = owner_more db set number made s.owner rec.owner held;
    room = (has_room desc served db (tally_of desc db) c (spelled_files desc c db served spelt) s.owner rec.owner).owned;
  }

  counts_after : Counts desc after (tally_after (tally_of desc db) s.owner (owner_opt o) rec.owner)
  counts_after = record {
    counted = λ t m low. sym (counted_same desc served db c c c set number s o rec spelt may was t m);
    owned = owners_are (owned_in desc db) (owned_in desc after) s.owner rec.owner (owner_opt o) one_moved;
  }

  -- Once it does, the content spells the database with the record.
  pub spell : (d : Content) → StandsFiles desc after (tally_after (tally_of desc db) s.owner (owner_opt o) rec.owner) d → database_in desc d ≡ Some after
  spell d counted = spell_by desc after (tally_after (tally_of desc db) s.owner (owner_opt o) rec.owner) d served counted counts_after
