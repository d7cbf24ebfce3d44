-- Structures and names, looked up while a schema is compiled. Of two things with one name the first declared counts.
use Rattle.std.specs.Prelude.{ℕ, ◌+◌, min, List, [], ◌∷◌, length, Bool, true, false, ◌&&◌, ◌||◌, ◌==◌, nat_lt, is_some, Some, None, if◌then◌else◌}
use Rattle.std.specs.declared.option.Option.{Option}
use Rattle.std.specs.Str.{bytes_eq}
use Rattle.dms_base.specs.declared.kind.StructureKind.{StructureKind}
use Rattle.dms_desc.specs.declared.structure.Item.{Item}
use Rattle.dms_desc.specs.Shape.{kind_number}
use Rattle.dms_desc.specs.Shape.Tree.{Empty}
use Rattle.dasdl_compile.specs.declared.draft.Draft.{Draft}
use Rattle.dms_desc.specs.Lookups.{item_named, group_named}

-- a structure of which no more is known than its name and where it stands
abbrev pub new_draft : ℕ → StructureKind → List ℕ → ℕ → Draft
new_draft number kind name owner = record { number = number; kind = kind; name = name; owner = owner; population = 0; items = []; groups = []; cond = Empty; set = 0; form = None; duplicates = false; parts = [] }

-- structures count from 1 in text order; the count stops at 65,535, which no schema of 200 structures reaches
abbrev pub next_structure : List Draft → ℕ
next_structure ds = min (length ds + 1) 65535

abbrev pub next_item : List Item → ℕ
next_item is = min (length is + 1) 255

-- some structure has this name
unfoldable pub is_structure : List ℕ → List Draft → Bool
is_structure name [] = false
is_structure name (d ∷ ds) = if bytes_eq d.name name then true else is_structure name ds

-- a data set, also the restart data set
abbrev pub is_data_set_draft : Draft → Bool
is_data_set_draft d = nat_lt (kind_number d.kind) 3

abbrev pub is_restart_draft : Draft → Bool
is_restart_draft d = kind_number d.kind == 2

abbrev pub is_automatic_draft : Draft → Bool
is_automatic_draft d = kind_number d.kind == 4

-- some structure is a restart data set
unfoldable pub has_restart : List Draft → Bool
has_restart [] = false
has_restart (d ∷ ds) = if is_restart_draft d then true else has_restart ds

-- the kind of the structure with this number, 0 where there is none
unfoldable pub kind_of : ℕ → List Draft → ℕ
kind_of number [] = 0
kind_of number (d ∷ ds) = if d.number == number then kind_number d.kind else kind_of number ds

-- the data set with this name, a restart data set among them
unfoldable pub data_set_named : List ℕ → List Draft → Option Draft
data_set_named name [] = None
data_set_named name (d ∷ ds) = if is_data_set_draft d && bytes_eq d.name name then Some d else data_set_named name ds

-- an item, link or group of a data set has this name
unfoldable pub is_taken : List ℕ → Draft → Bool
is_taken name d = is_some (item_named name 1 d.items) || is_some (group_named name d.groups)
