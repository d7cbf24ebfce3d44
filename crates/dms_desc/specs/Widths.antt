-- How many bytes values take in records and in keys.
use Rattle.std.specs.Prelude.{ℕ, ◌+◌, suc, List, [], ◌∷◌}
use Rattle.dms_base.specs.declared.kind.ItemKind.{ItemKind}
use Rattle.dms_base.specs.declared.kind.ItemKind.TheVariants.{Alpha, Number as Decimal, Bool as OneBit, Field, Link}
use Rattle.dms_desc.specs.declared.structure.Item.{Item}

-- a value, without the byte that says whether it is there
abbrev pub width_of : ItemKind → ℕ
width_of (Alpha n) = n
width_of (Decimal n m s) = 8
width_of OneBit = 1
width_of (Field n) = 8
width_of (Link to counted) = 4

-- an item in a record or a key: a byte for its presence, and its value
abbrev pub item_width : ItemKind → ℕ
item_width k = suc (width_of k)

-- a record with these items
abbrev pub record_width : List Item → ℕ
record_width [] = 0
record_width (i ∷ is) = item_width i.kind + record_width is
