-- Structures, items and groups of a description, looked up by number or by name. Numbers count from 1, and of two things
-- with one name the first declared counts.
use Rattle.std.specs.Prelude.{ℕ, ◌+◌, ◌-◌, min, List, [], ◌∷◌, ◌==◌, slice_get, Some, None, if◌then◌else◌}
use Rattle.std.specs.declared.option.Option.{Option}
use Rattle.std.specs.Str.{bytes_eq}
use Rattle.dms_base.specs.declared.kind.ItemKind.{ItemKind}
use Rattle.dms_base.specs.Name.{unknown_name}
use Rattle.dms_desc.specs.declared.structure.Item.{Item}
use Rattle.dms_desc.specs.declared.structure.Group.{Group}
use Rattle.dms_desc.specs.declared.structure.KeyPart.{KeyPart}
use Rattle.dms_desc.specs.declared.lookups.NamedItem.{NamedItem}
use Rattle.dms_desc.specs.Shape.{Shape, Described}
use Rattle.dms_desc.specs.Kinds.{over}

-- ---- structures

-- the structure with this number among these
abbrev pub structure_at : List Shape → ℕ → Option Shape
structure_at ss n = if n == 0 then None else slice_get ss (n - 1)

-- a structure by its number
abbrev pub structure_of : Described → ℕ → Option Shape
structure_of desc n = structure_at desc.structures n

-- the structure with this name among these
abbrev pub structure_named : List ℕ → List Shape → Option Shape
structure_named name [] = None
structure_named name (s ∷ ss) = if bytes_eq s.name name then Some s else structure_named name ss

abbrev pub name_of : Option Shape → List ℕ
name_of None = unknown_name
name_of (Some s) = s.name

abbrev pub items_of : Option Shape → List Item
items_of None = []
items_of (Some s) = s.items

abbrev pub parts_of : Option Shape → List KeyPart
parts_of None = []
parts_of (Some s) = s.parts

abbrev pub over_of : Option Shape → ℕ
over_of None = 0
over_of (Some s) = over s

-- the data set whose records the structure with a number holds, 0 where there is no such structure
abbrev pub set_of : Described → ℕ → ℕ
set_of desc x = over_of (structure_of desc x)

-- ---- items

-- the item of a key's part
abbrev pub part_item : List Item → KeyPart → Option Item
part_item items p = slice_get items (p.item - 1)

abbrev pub kind_in : Option Item → Option ItemKind
kind_in None = None
kind_in (Some i) = Some i.kind

-- the kind of the item of a key's part
abbrev pub part_kind : List Item → KeyPart → Option ItemKind
part_kind items p = kind_in (part_item items p)

-- the number behind one; it stops at 255
abbrev pub after_item : ℕ → ℕ
after_item n = min (n + 1) 255

-- the item or link with this name among these; n is the number of the first
abbrev pub item_named : List ℕ → ℕ → List Item → Option NamedItem
item_named name n [] = None
item_named name n (i ∷ is) = if bytes_eq i.name name then Some (record { number = n; kind = i.kind }) else item_named name (after_item n) is

-- the group with this name among these
abbrev pub group_named : List ℕ → List Group → Option Group
group_named name [] = None
group_named name (g ∷ gs) = if bytes_eq g.name name then Some g else group_named name gs
