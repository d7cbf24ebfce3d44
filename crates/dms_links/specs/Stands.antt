-- The slots of a content, and the records of a database: what each slot holds and counts.
use Rattle.std.specs.Prelude.{ℕ, ◌≤◌, ◌≡◌, List, Some, None, true}
use Rattle.std.specs.List.{list_all}
use Rattle.std.specs.FinMap.{get}
use Rattle.dms_block.specs.Content.{Content}
use Rattle.dms_desc.specs.Lookups.{structure_of}
use Rattle.dms_desc.specs.Shape.{Shape, Described}
use Rattle.dms_layout.specs.declared.slot.Slot.{Slot}
use Rattle.dms_layout.specs.declared.slot.SlotRead.TheVariants.{Used}
use Rattle.dms_model.specs.Db.{Db}
use Rattle.dms_model.specs.Valid.{is_data_set, owner_stands}
use Rattle.dms_slots.specs.SlotBlocks.{is_block, slot_at}
use Rattle.dms_tally.specs.Counts.{counted_in, links_stand, owned_in}
use Rattle.dms_links.specs.Rows.{file_in, rec_in}

-- What the slots count: the counted links to each record, and what it owns.
pub record Tally : Type 0 where
  pub counted : ℕ → ℕ → ℕ
  pub owned : ℕ → ℕ → ℕ

-- the counts of a database
abbrev pub tally_of : Described → Db → Tally
tally_of desc db = record { counted = counted_in desc db; owned = owned_in desc db }

-- What stands in the slot of the record with number n, where this is what slots count.
pub record SlotStands (desc : Described) (db : Db) (own : Tally) (s : Shape) (n : ℕ) (slot : Slot) : Type 0 where
  pub most : n ≤ s.population
  pub owner : owner_stands db.records s.owner slot.rec.owner ≡ true
  pub links : links_stand db.records s.items slot.rec.values ≡ true
  pub counted : slot.counted ≡ own.counted s.number n
  pub owned : slot.owned ≡ own.owned s.number n

-- the file of a data set: blocks of slots, each of which stands
pub record FileStands (desc : Described) (db : Db) (own : Tally) (s : Shape) (bs : List (List ℕ)) : Type 0 where
  pub blocks : list_all (is_block s) bs ≡ true
  pub slots : (n : ℕ) (slot : Slot) → 1 ≤ n → slot_at s bs n ≡ Used slot → SlotStands desc db own s n slot

-- the files of all data sets have the records of a database
pub record RecordsStand (desc : Described) (db : Db) (own : Tally) (c : Content) : Type 0 where
  pub each : (n : ℕ) (s : Shape) → structure_of desc n ≡ Some s → is_data_set (Some s) ≡ true → FileStands desc db own s (file_in c s)
  pub records : (set n : ℕ) → 1 ≤ n → get db.records (set, n) ≡ rec_in c (structure_of desc set) n
  pub none : (set : ℕ) → get db.records (set, 0) ≡ None

-- these are the counts of the database
pub record Counts (desc : Described) (db : Db) (own : Tally) : Type 0 where
  pub counted : (set n : ℕ) → 1 ≤ set → own.counted set n ≡ counted_in desc db set n
  pub owned : (set n : ℕ) → 1 ≤ set → own.owned set n ≡ owned_in desc db set n
