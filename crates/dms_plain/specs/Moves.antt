-- Entries of manual subsets that are made and taken out, and how that is taken back.
use Rattle.std.specs.Prelude.{ℕ, Bool, false, List, [], ◌∷◌, ◌≡◌, ◌≤◌, true, if◌then◌else◌, filter, length, insert as insert_at}
use Rattle.std.specs.List.{list_any}
use Rattle.std.specs.declared.result.Result.{Result}
use Rattle.std.specs.declared.result.Result.TheVariants.{Ok, Err}
use Rattle.dms_desc.specs.Sorted.{place_in}
use Rattle.dms_model.specs.Db.{SubsetEntry}
use Rattle.dms_model.specs.Members.{names}
use Rattle.dms_model.specs.Uses.{entry_before, entry_of, is_not_entry}
use Rattle.dms_plain.specs.declared.manual.EntryMove.{EntryMove}

abbrev pub stands : ℕ → ℕ → ℕ → List SubsetEntry → Bool
stands subset owner number es = list_any (names subset owner number) es

-- the entries with one more in its place, or as they are where it stands
abbrev pub with_entry : ℕ → ℕ → ℕ → List SubsetEntry → List SubsetEntry
with_entry subset owner number es = if stands subset owner number es then es else place_in entry_before (entry_of subset owner number) es

abbrev pub without_entry : ℕ → ℕ → ℕ → List SubsetEntry → List SubsetEntry
without_entry subset owner number es = filter (is_not_entry subset owner number) es

-- the entries as they were before a move
abbrev pub moved_back : EntryMove → List SubsetEntry → List SubsetEntry
moved_back m es = if m.entered then without_entry m.subset m.owner m.number es else with_entry m.subset m.owner m.number es

-- the entries before these moves, oldest first
abbrev pub before_moves : List EntryMove → List SubsetEntry → List SubsetEntry
before_moves [] es = es
before_moves (m ∷ ms) es = moved_back m (before_moves ms es)

-- an entry stands, or it doesn't and its place is before the i-th
abbrev pub IsEntryAt : ℕ → ℕ → ℕ → List SubsetEntry → Result ℕ ℕ → Type 0
IsEntryAt subset owner number es (Ok i) = stands subset owner number es ≡ true
IsEntryAt subset owner number es (Err i) =
    (i ≤ length es) × (stands subset owner number es ≡ false) × (place_in entry_before (entry_of subset owner number) es ≡ insert_at es i (entry_of subset owner number))
