-- Who refers to a record, or is owned by it, over a list of entries.
use Rattle.std.specs.Prelude.{ℕ, List, Bool, true, false, ◌||◌, map, filter}
use Rattle.std.specs.List.{list_any}
use Rattle.dms_desc.specs.declared.record.Record.{Record}
use Rattle.dms_desc.specs.Shape.{Described}
use Rattle.dms_model.specs.Db.{Place, SubsetEntry}
use Rattle.dms_model.specs.Uses.{is_entered, links_to, owns_entry, owns_record, place_in_entry}

-- a counted link refers to it, or an entry names it
abbrev pub is_named_in : Described → List (Place × Record) → List SubsetEntry → ℕ → ℕ → Bool
is_named_in desc es manual set number = list_any (links_to true desc set number) es || list_any (is_entered desc set number) manual

-- it owns records or entries
abbrev pub is_owner_in : Described → List (Place × Record) → List SubsetEntry → ℕ → ℕ → Bool
is_owner_in desc es manual set number = list_any (owns_record desc set number) es || list_any (owns_entry desc set number) manual

-- the places of those whose self-correcting link refers to it
abbrev pub linkers_in : Described → ℕ → ℕ → List (Place × Record) → List Place
linkers_in desc set number es = map place_in_entry (filter (links_to false desc set number) es)
