-- What putting a record answers, over a list of entries.
use Rattle.std.specs.Prelude.{ℕ, List, [], ◌∷◌, Bool, not, ◌==◌, ◌&&◌, length, Some, None, if◌then◌else◌}
use Rattle.std.specs.List.{list_any}
use Rattle.std.specs.declared.option.Option.{Option}
use Rattle.std.specs.FinMap.{find}
use Rattle.dms_base.specs.declared.value.Value.{Value}
use Rattle.dms_desc.specs.declared.record.Record.{Record}
use Rattle.dms_desc.specs.Shape.{Shape, Described}
use Rattle.dms_model.specs.declared.put.Put.{Put}
use Rattle.dms_model.specs.declared.put.Put.TheVariants.{Stored, Full}
use Rattle.dms_model.specs.Db.{Place, SubsetEntry, place_cmp, rows_of, gap_from}
use Rattle.dms_desc.specs.Lookups.{structure_of}
use Rattle.dms_model.specs.Stores.{has_equal, is_full, is_strict, owners_in, put_unless, values_of}

-- for this owner another record than the one with the number has a key equal to that of these values
abbrev pub clashes_at : Shape → List SubsetEntry → Option ℕ → List Value → List (Place × Record) → ℕ → Bool
clashes_at s manual number values es owner = has_equal s manual number (record { owner = owner; values = values }) es

-- an entry is one of the record in the subset, and for its owner another record has an equal key
abbrev pub clashes_for_owner : Shape → List SubsetEntry → ℕ → List Value → List (Place × Record) → SubsetEntry → Bool
clashes_for_owner s manual number values es e = (e.subset == s.number) && (e.number == number) && clashes_at s manual (Some number) values es e.owner

-- a set or subset refuses the record
abbrev pub clashes_with : Shape → List SubsetEntry → List (Place × Record) → ℕ → Option ℕ → Record → Bool
clashes_with s manual es set number rec = is_strict s set rec.values && list_any (clashes_at s manual number rec.values es) (owners_in s manual number rec.owner)

-- the first structure that refuses
abbrev pub clash_in : List Shape → List SubsetEntry → List (Place × Record) → ℕ → Option ℕ → Record → Option ℕ
clash_in [] manual es set number rec = None
clash_in (s ∷ ss) manual es set number rec = if clashes_with s manual es set number rec then Some s.number else clash_in ss manual es set number rec

abbrev pub number_in : Described → List (Place × Record) → ℕ → Option ℕ → Put
number_in desc es set (Some n) = Stored n
number_in desc es set None = if is_full (structure_of desc set) (length (rows_of set es)) then Full else Stored (gap_from 1 (rows_of set es))

abbrev pub put_in : Described → List SubsetEntry → List (Place × Record) → ℕ → Option ℕ → Record → Put
put_in desc manual es set number rec = put_unless (clash_in desc.structures manual es set number rec) (number_in desc es set number)

-- another member of the owner has a key equal to the record's in a subset without DUPLICATES
abbrev pub refused_by : Shape → List (Place × Record) → List SubsetEntry → ℕ → ℕ → Bool
refused_by s es manual owner number = not s.duplicates && clashes_at s manual (Some number) (values_of (find place_cmp (s.set, number) es)) es owner
