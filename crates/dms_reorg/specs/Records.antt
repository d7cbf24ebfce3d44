-- The records of a database, and the slots and entries that they have.
use Rattle.std.specs.Prelude.{ℕ, ◌≤◌, ◌≡◌, List, true, Some, None}
use Rattle.std.specs.FinMap.{entries, get}
use Rattle.dms_block.specs.Content.{Content}
use Rattle.dms_desc.specs.Kinds.{over}
use Rattle.dms_desc.specs.Lookups.{structure_of}
use Rattle.dms_desc.specs.Shape.{Described, Shape}
use Rattle.dms_links.specs.Rows.{file_in, rec_opt}
use Rattle.dms_links.specs.Stands.{RecordsStand, Tally}
use Rattle.dms_lists.specs.Forms.{form_of, kept_in}
use Rattle.dms_model.specs.Db.{Db}
use Rattle.dms_model.specs.Valid.{is_data_set}
use Rattle.dms_sets.specs.Listing.{AllPlaces}
use Rattle.dms_sets.specs.Padded.{entry_width}
use Rattle.dms_sets.specs.Sets.{entries_of, IsSmall, kinds_over}
use Rattle.dms_slots.specs.SlotBlocks.{slot_at}
use Rattle.dms_spelling.specs.Serving.{IsServed}
use Rattle.dms_reorg.specs.Extended.{extended, first_values, further}
use Rattle.dms_reorg.specs.Filled.{HoldsEntries}
use Rattle.dms_reorg.specs.Widened.{HasNoneBehind, IsWidenedFile}

-- The slots of a file hold the records of a data set, and none stands behind POPULATION.
pub record HoldsRecords (db : Db) (set : ℕ) (s : Shape) (bs : List (List ℕ)) : Type 0 where
  pub none : get db.records (set, 0) ≡ None
  pub each : (n : ℕ) → 1 ≤ n → rec_opt (slot_at s bs n) ≡ get db.records (set, n)
  pub behind : HasNoneBehind s bs

-- an entry can name the number of each record
abbrev pub HasSmallNumbers : Db → Type 0
HasSmallNumbers db = AllPlaces IsSmall (entries db.records)

-- So it is where files have the records of a database.
abbrev pub SpelledHolds : Type 0
SpelledHolds = (desc : Described) (db : Db) (own : Tally) (c : Content) (set : ℕ) (s : Shape) → IsServed desc → RecordsStand desc db own c → structure_of desc set ≡ Some s → is_data_set (Some s) ≡ true
    → HoldsRecords db set s (file_in c s) × HasSmallNumbers db

-- Where a file holds the records of a data set, the file that is widened holds those of the extended database.
abbrev pub WidensRecords : Type 0
WidensRecords = (old new : Described) (db : Db) (set : ℕ) (s t : Shape) (bs cs : List (List ℕ)) → HoldsRecords db set s bs → s.population ≤ t.population
    → IsWidenedFile s t (first_values (further old new set)) bs cs → HoldsRecords (extended old new db) set t cs

-- its records have the numbers that they had
abbrev pub KeepsNumbers : Type 0
KeepsNumbers = (old new : Described) (db : Db) → HasSmallNumbers db → HasSmallNumbers (extended old new db)

-- The file of a set that holds the entries of all records of the data set is kept as the entries of the set.
abbrev pub HoldsSet : Type 0
HoldsSet = (desc : Described) (db : Db) (t s : Shape) (bs own : List (List ℕ)) → HoldsEntries (kinds_over desc s) t s bs own → HoldsRecords db (over s) t bs → HasSmallNumbers db
    → kept_in (form_of s) (entry_width (kinds_over desc s) s.parts) own ≡ Some (entries_of desc db s)
