-- Structures and items, looked up by their numbers, which count from 1.
use Rattle.std.specs.Prelude.{ℕ, ◌-◌, List, ◌==◌, slice_get, Some, None, if◌then◌else◌}
use Rattle.std.specs.declared.option.Option.{Option}
use Rattle.dms_desc.specs.declared.structure.Item.{Item}
use Rattle.dms_desc.specs.Lookups.{structure_at, items_of}
use Rattle.dms_desc.specs.Shape.{Shape}

abbrev pub kind_in : Option Shape → ℕ
kind_in None = 0
kind_in (Some s) = s.kind

abbrev pub owner_in : Option Shape → ℕ
owner_in None = 0
owner_in (Some s) = s.owner

-- the kind of the structure with this number, 0 where there is none
unfoldable pub kind_of : List Shape → ℕ → ℕ
kind_of ss n = kind_in (structure_at ss n)

-- the number of the structure in which it stands, 0 where it stands in none
unfoldable pub owner_of : List Shape → ℕ → ℕ
owner_of ss n = owner_in (structure_at ss n)

-- its items, none where there is no such structure
unfoldable pub items_at : List Shape → ℕ → List Item
items_at ss n = items_of (structure_at ss n)

-- the item with this number
abbrev pub item_at : List Item → ℕ → Option Item
item_at items n = if n == 0 then None else slice_get items (n - 1)
