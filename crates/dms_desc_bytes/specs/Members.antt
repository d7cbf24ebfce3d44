-- The checks of items, links and groups.
use Rattle.std.specs.Prelude.{ℕ, ◌+◌, ◌-◌, List, length, take, drop, Bool, true, false, not, ◌&&◌, ◌==◌, nat_le}
use Rattle.std.specs.List.{list_all}
use Rattle.std.specs.Str.{bytes_eq}
use Rattle.dms_base.specs.declared.value.Value.{Value}
use Rattle.dms_base.specs.declared.value.Value.TheVariants.{Null, Text, Number, Bool as Truth, Bits, Link as Reference}
use Rattle.dms_base.specs.declared.kind.ItemKind.{ItemKind}
use Rattle.dms_base.specs.declared.kind.ItemKind.TheVariants.{Alpha, Number as Decimal, Bool as OneBit, Field, Link as LinkTo}
use Rattle.dms_base.specs.Fits.{fits}
use Rattle.dms_base.specs.Name.{is_name}
use Rattle.dms_base.specs.Spelling.{is_kind}
use Rattle.dms_base.specs.Text.{is_printable, trim_spaces}
use Rattle.dms_desc.specs.declared.structure.Item.{Item}
use Rattle.dms_desc.specs.declared.structure.Group.{Group}
use Rattle.dms_desc.specs.Shape.{Shape}
use Rattle.dms_desc.specs.Conds.{is_null}
use Rattle.dms_desc.specs.Kinds.{is_link}
use Rattle.dms_desc_bytes.specs.Finding.{kind_of, owner_of}
use Rattle.dms_desc_bytes.specs.Lists.{apart}
use Rattle.dms_desc_bytes.specs.Spelling.{is_data_set}

-- a text has characters from the space to `~`, and no space at its end
abbrev pub is_plain : Value → Bool
is_plain (Text bytes) = list_all is_printable bytes && bytes_eq (trim_spaces bytes) bytes
is_plain Null = true
is_plain (Number z) = true
is_plain (Truth b) = true
is_plain (Bits n) = true
is_plain (Reference n) = true

-- a link points to a data set that stands in no other, is never required, and begins as null
unfoldable pub is_link_sound : List Shape → ℕ → Item → Bool
is_link_sound ss target i = is_data_set (kind_of ss target) && owner_of ss target == 0 && not i.required && is_null i.initial

abbrev pub points_well : List Shape → ItemKind → Item → Bool
points_well ss (LinkTo target counted) i = is_link_sound ss target i
points_well ss (Alpha n) i = true
points_well ss (Decimal n m s) i = true
points_well ss OneBit i = true
points_well ss (Field n) i = true

-- an item: its name, the range of its type, its initial value, and what a link points to
unfoldable pub is_item_sound : List Shape → Item → Bool
is_item_sound ss i =
    is_name i.name
    && is_kind i.kind
    && fits i.kind i.initial
    && is_plain i.initial
    && points_well ss i.kind i

abbrev pub items_differ : Item → Item → Bool
items_differ a b = not (bytes_eq a.name b.name)

abbrev pub groups_differ : Group → Group → Bool
groups_differ a b = not (bytes_eq a.name b.name)

-- a group's name is no item's
abbrev pub is_free_of : List Item → Group → Bool
is_free_of items g = list_all (λ i. not (bytes_eq i.name g.name)) items

-- no name stands twice among the items, links and groups of a data set
unfoldable pub members_differ : List Item → List Group → Bool
members_differ items groups = apart items_differ items && apart groups_differ groups && list_all (is_free_of items) groups

-- the items of a group: so many, from its first one on
abbrev pub items_in_group : List Item → Group → List Item
items_in_group items g = take g.count (drop (g.first - 1) items)

abbrev pub is_no_link : Item → Bool
is_no_link i = not (is_link i.kind)

-- a group has a name and at least one item, ends within the items, and holds no link
unfoldable pub is_group_sound : List Item → Group → Bool
is_group_sound items g =
    is_name g.name
    && nat_le 1 g.first
    && nat_le 1 g.count
    && nat_le (g.first + g.count) (length items + 1)
    && list_all is_no_link (items_in_group items g)

-- groups stand in the order of their items, and no item is in two of them
abbrev pub groups_follow : Group → Group → Bool
groups_follow a b = nat_le (a.first + a.count) b.first

-- one for a counted link
abbrev pub counted_one : ItemKind → ℕ
counted_one (LinkTo target true) = 1
counted_one (LinkTo target false) = 0
counted_one (Alpha n) = 0
counted_one (Decimal n m s) = 0
counted_one OneBit = 0
counted_one (Field n) = 0
