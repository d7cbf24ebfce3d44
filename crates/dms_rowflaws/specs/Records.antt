-- The first record that breaks what a record keeps. Slots are read one by one, so that one value out of its range is a flaw of its own record alone.
use Rattle.std.specs.Prelude.{ℕ, ◌+◌, ◌-◌, Bool, true, ◌&&◌, ◌==◌, nat_le, List, [], ◌∷◌, ◌++◌, Some, None, count_by, slice_get, if◌then◌else◌}
use Rattle.std.specs.declared.option.Option.{Option}
use Rattle.std.specs.Option.{option_map}
use Rattle.std.specs.FinMap.{entries, from_entries, keys}
use Rattle.dms_block.specs.Content.{Content}
use Rattle.dms_desc.specs.Conds.{meets}
use Rattle.dms_desc.specs.Fitting.{values_fit}
use Rattle.dms_desc.specs.Lookups.{structure_of}
use Rattle.dms_desc.specs.Shape.{Shape, Described}
use Rattle.dms_desc.specs.declared.record.Record.{Record}
use Rattle.dms_layout.specs.declared.slot.Slot.{Slot}
use Rattle.dms_layout.specs.declared.slot.SlotRead.{SlotRead}
use Rattle.dms_layout.specs.declared.slot.SlotRead.TheVariants.{Free, Used, Bad}
use Rattle.dms_links.specs.Rows.{file_in, rec_opt, rows_from}
use Rattle.dms_model.specs.Db.{Db, Place}
use Rattle.dms_model.specs.Uses.{owns_entry, owns_record}
use Rattle.dms_model.specs.Valid.{is_data_set, owner_stands}
use Rattle.dms_rows.specs.Alone.{required_kept}
use Rattle.dms_rows.specs.Rows.{raw_rows}
use Rattle.dms_slots.specs.SlotBlocks.{or_free}
use Rattle.dms_spelling.specs.Spelled.{as_set, entries_all}
use Rattle.dms_tally.specs.Counts.{counted_in, links_stand}
use Rattle.dms_rowflaws.specs.Numbers.{first_of_structures}

-- the records of all data sets, where these are their rows
abbrev pub rows_by : (Shape → List SlotRead) → List Shape → List (Place × Record)
rows_by rows [] = []
rows_by rows (s ∷ ss) = if is_data_set (Some s) then rows_from s.number 1 (rows s) ++ rows_by rows ss else rows_by rows ss

-- the rows of a data set, read one by one
abbrev pub rows_told : Content → Shape → List SlotRead
rows_told c s = raw_rows s (file_in c s)

-- the record of a data set with a number
abbrev pub rec_by : (Shape → List SlotRead) → Option Shape → ℕ → Option Record
rec_by rows None n = None
rec_by rows (Some s) n = if is_data_set (Some s) then rec_opt (or_free (slice_get (rows s) (n - 1))) else None

-- The database that the slots and the lists of manual subsets tell, whatever else they say.
unfoldable pub told_db : Described → Content → Db
told_db desc c = record { records = from_entries (rows_by (rows_told c) desc.structures); entries = keys (as_set (entries_all desc c desc.structures)) }

-- How many embedded records and entries of manual subsets a record owns. A pair of owner and record that a list has twice counts twice.
unfoldable pub told_owned : Described → Content → ℕ → ℕ → ℕ
told_owned desc c set n = count_by (owns_record desc set n) (entries (told_db desc c).records) + count_by (owns_entry desc set n) (entries_all desc c desc.structures)

-- its number is at most POPULATION, its values fit, no REQUIRED one is null, and they meet VERIFY
abbrev pub keeps_values : Shape → ℕ → Slot → Bool
keeps_values s n slot = (nat_le n s.population && values_fit s.items slot.rec.values) && (required_kept s.items slot.rec.values && meets s.cond slot.rec.values)

-- its owner stands, and the records that its links refer to
abbrev pub keeps_references : Db → Shape → Slot → Bool
keeps_references db s slot = owner_stands db.records s.owner slot.rec.owner && links_stand db.records s.items slot.rec.values

-- it says how many counted links refer to it, and how much it owns
abbrev pub keeps_counts : Described → Content → Shape → ℕ → Slot → Bool
keeps_counts desc c s n slot = (slot.counted == counted_in desc (told_db desc c) s.number n) && (slot.owned == told_owned desc c s.number n)

-- What is asked of the row with a number in a data set.
abbrev pub row_keeps : Described → Content → Shape → ℕ → SlotRead → Bool
row_keeps desc c s n Free = true
row_keeps desc c s n (Used slot) = keeps_values s n slot && (keeps_references (told_db desc c) s slot && keeps_counts desc c s n slot)
row_keeps desc c s n Bad = true

-- the number of the first row that doesn't pass, of those from a number on
abbrev pub first_row : (ℕ → SlotRead → Bool) → ℕ → List SlotRead → Option ℕ
first_row keeps n [] = None
first_row keeps n (r ∷ rs) = if keeps n r then first_row keeps (n + 1) rs else Some n

abbrev pub flawed_row : Described → Content → Option Shape → Option ℕ
flawed_row desc c None = None
flawed_row desc c (Some s) = if is_data_set (Some s) then first_row (row_keeps desc c s) 1 (rows_told c s) else None

-- a place in a structure: of a record its number, of an entry its place in the list, from 1
abbrev pub in_structure : ℕ → ℕ → ℕ × ℕ
in_structure n k = (n, k)

-- The first record, in order of data sets and numbers, that breaks what a record keeps.
abbrev pub record_flaw : Described → Content → Option (ℕ × ℕ)
record_flaw desc c = first_of_structures (λ n. option_map (in_structure n) (flawed_row desc c (structure_of desc n)))
