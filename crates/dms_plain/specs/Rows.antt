-- Rows in the order of their places, the database that they stand for, and changes that are taken back.
use Rattle.std.specs.Prelude.{ℕ, List, [], ◌∷◌, map, T, Some, None, ◌≡◌, ◌<◌, ◌≤◌, length, slice_set, slice_index_or, insert as insert_at}
use Rattle.std.specs.declared.option.Option.{Option}
use Rattle.std.specs.declared.result.Result.{Result}
use Rattle.std.specs.declared.result.Result.TheVariants.{Ok, Err}
use Rattle.std.specs.FinMap.{from_sorted, is_sorted, remove, insert, put, find}
use Rattle.dms_desc.specs.declared.record.Record.{Record}
use Rattle.dms_desc.specs.Shape.{Described}
use Rattle.dms_model.specs.Fitting.{RecordsFit}
use Rattle.dms_model.specs.Db.{Db, Place, Records, SubsetEntry, place_cmp}
use Rattle.dms_plain.specs.declared.rows.RecordRow.{RecordRow}
use Rattle.dms_plain.specs.declared.rows.Undo.{Undo}

abbrev pub entry_of : RecordRow → Place × Record
entry_of r = ((r.set, r.number), r.rec)

-- the entries that rows stand for
abbrev pub entries_of : List RecordRow → List (Place × Record)
entries_of rows = map entry_of rows

-- the rows stand in the order of their places, each place once
abbrev pub IsInOrder : List RecordRow → Type 0
IsInOrder rows = T (is_sorted place_cmp (entries_of rows))

-- the records of rows in order
abbrev pub records_in : List RecordRow → Records
records_in rows = from_sorted (entries_of rows)

-- records in which a place is as it was
abbrev pub restore : Place → Option Record → Records → Records
restore place None records = remove records place
restore place (Some rec) records = insert records place rec

-- the records before what was done, oldest first
abbrev pub undo_all : List Undo → Records → Records
undo_all [] records = records
undo_all (u ∷ us) records = restore (u.set, u.number) u.old (undo_all us records)

-- the database of these records, and of these entries of manual subsets
abbrev pub db_of : Records → List SubsetEntry → Db
db_of records manual = record { records = records; entries = manual }

-- a place is that of the i-th entry, or it is that of none and would be before the i-th
abbrev pub IsWhere : Place → List (Place × Record) → Result ℕ ℕ → Type 0
IsWhere k es (Ok i) = (i < length es) × ((v : Record) (d : Place × Record) → put place_cmp k v es ≡ slice_set es i ((slice_index_or es i d).0, v)) × ((d : Place × Record) → find place_cmp k es ≡ Some (slice_index_or es i d).1)
IsWhere k es (Err i) = (i ≤ length es) × ((v : Record) → put place_cmp k v es ≡ insert_at es i (k, v)) × (find place_cmp k es ≡ None)

-- the numbers of rows strictly rise
abbrev pub AreNumbersRising : List RecordRow → Type 0
AreNumbersRising rows = (i j : ℕ) (d : RecordRow) → i < j → j < length rows → (slice_index_or rows i d).number < (slice_index_or rows j d).number

-- a row of a data set by its number
abbrev pub numbered : RecordRow → ℕ × Record
numbered r = (r.number, r.rec)

-- the records fit their data sets, and so do those before what was done
pub record RowsFit (desc : Described) (rows : List RecordRow) (undo : List Undo) : Type 0 where
  pub records : RecordsFit desc (records_in rows)
  pub mark : RecordsFit desc (undo_all undo (records_in rows))
