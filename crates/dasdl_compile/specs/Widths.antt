-- Bytes of records, keys and descriptions. A count of bytes stops at 2 ^ 32 - 1.
use Rattle.std.specs.Prelude.{ℕ, ◌+◌, min, List, [], ◌∷◌, length, if◌then◌else◌}
use Rattle.dms_base.specs.declared.value.Value.{Value}
use Rattle.dms_base.specs.declared.value.Value.TheVariants.{Null, Text, Number, Bool as Truth, Bits, Link as Reference}
use Rattle.dms_desc.specs.declared.structure.Item.{Item}
use Rattle.dms_desc.specs.declared.structure.Group.{Group}
use Rattle.dms_desc.specs.declared.structure.KeyPart.{KeyPart}
use Rattle.dms_desc.specs.Shape.{Tree}
use Rattle.dms_desc.specs.Shape.Tree.{Empty, Test, Both, Either, Contrary}
use Rattle.dasdl_compile.specs.declared.draft.Draft.{Draft}
use Rattle.dasdl_compile.specs.Finding.{is_data_set_draft, is_automatic_draft}

abbrev pub most : ℕ
most = 4294967295

abbrev pub plus : ℕ → ℕ → ℕ
plus a b = min (a + b) most

abbrev pub size_of : List ℕ → ℕ
size_of bytes = min (length bytes) most

-- a value in a description: its kind, then a text with a byte for its length, 8 bytes for a number or bits, 1 for
-- TRUE or FALSE
unfoldable pub value_width : Value → ℕ
value_width Null = 1
value_width (Text bytes) = plus 2 (size_of bytes)
value_width (Number n) = 9
value_width (Truth b) = 2
value_width (Bits n) = 9
value_width (Reference n) = 9

-- a condition: its kind, then the item and the comparison in a byte each and the value, or its parts
unfoldable pub condition_width : Tree → ℕ
condition_width Empty = 1
condition_width (Test item op value) = plus 3 (value_width value)
condition_width (Both a b) = plus (plus 1 (condition_width a)) (condition_width b)
condition_width (Either a b) = plus (plus 1 (condition_width a)) (condition_width b)
condition_width (Contrary a) = plus 1 (condition_width a)

-- an item in a description: a name with a byte for its length, the kind in four bytes, a byte for REQUIRED, the
-- initial value
unfoldable pub items_width : ℕ → List Item → ℕ
items_width w [] = w
items_width w (i ∷ is) = items_width (plus (plus (plus w 6) (size_of i.name)) (value_width i.initial)) is

-- a group in a description: a name with a byte for its length, the first item and how many in a byte each
unfoldable pub groups_width : ℕ → List Group → ℕ
groups_width w [] = w
groups_width w (g ∷ gs) = groups_width (plus (plus w 3) (size_of g.name)) gs

-- parts of a key in a description, two bytes each
unfoldable pub parts_width : ℕ → List KeyPart → ℕ
parts_width w [] = w
parts_width w (p ∷ ps) = parts_width (plus w 2) ps

-- behind kind, name and owner: a data set has its population, items, groups and VERIFY
unfoldable pub data_set_width : ℕ → Draft → ℕ
data_set_width w d = plus (groups_width (items_width (plus w 6) d.items) d.groups) (condition_width d.cond)

-- a set or subset has its data set, form, duplicates, population and parts, an automatic subset WHERE besides
unfoldable pub set_width : ℕ → Draft → ℕ
set_width w d = if is_automatic_draft d then plus (parts_width (plus w 9) d.parts) (condition_width d.cond) else parts_width (plus w 9) d.parts

-- so many bytes and this structure: kind, a name with a byte for its length, owner in two bytes, the rest
unfoldable pub with_structure : ℕ → Draft → ℕ
with_structure w d = if is_data_set_draft d then data_set_width (plus (plus w 4) (size_of d.name)) d else set_width (plus (plus w 4) (size_of d.name)) d

unfoldable pub structures_width : ℕ → List Draft → ℕ
structures_width w [] = w
structures_width w (d ∷ ds) = structures_width (with_structure w d) ds

-- a description begins with 18 bytes: its mark, the level, the five parameters and the number of structures
abbrev pub description_width : List Draft → ℕ
description_width ds = structures_width 18 ds
