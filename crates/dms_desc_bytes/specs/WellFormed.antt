-- Which descriptions a schema can have: no check of a schema fails for them, and each limit is kept.
use Rattle.std.specs.Prelude.{ℕ, ◌+◌, ◌-◌, List, [], ◌∷◌, length, Bool, true, false, not, ◌&&◌, ◌||◌, ◌==◌, nat_le, Some, None, IsTrue, if◌then◌else◌}
use Rattle.std.specs.declared.option.Option.{Option}
use Rattle.std.specs.List.{list_all, list_any}
use Rattle.std.specs.Str.{bytes_eq}
use Rattle.dms_base.specs.Name.{is_name}
use Rattle.dms_desc.specs.declared.structure.Item.{Item}
use Rattle.dms_desc.specs.declared.structure.KeyPart.{KeyPart}
use Rattle.dms_desc.specs.Shape.{Shape, Described}
use Rattle.dms_desc_bytes.specs.Conditions.{is_condition, is_nothing}
use Rattle.dms_desc.specs.Kinds.{is_link, is_restart, is_automatic, is_manual}
use Rattle.dms_desc_bytes.specs.Finding.{kind_of, owner_of, item_at, items_at}
use Rattle.dms_desc_bytes.specs.Lists.{is_within, is_empty, apart, total}
use Rattle.dms_desc.specs.Widths.{item_width, record_width}
use Rattle.dms_desc_bytes.specs.Members.{is_item_sound, is_group_sound, members_differ, groups_follow, counted_one}
use Rattle.dms_desc_bytes.specs.Spelling.{is_data_set, spelling}

-- ---- where a structure stands

-- behind structure n of a text, structure m can be open: m is n, or n stands in it, or what n stands in stands in it
abbrev pub is_open_behind : List Shape → ℕ → ℕ → Bool
is_open_behind ss n m = m == n || m == owner_of ss n || m == owner_of ss (owner_of ss n)

-- it stands in no other, or in a data set that isn't the restart data set and is open behind the structure before it
unfoldable pub is_owned_well : List Shape → Shape → Bool
is_owned_well ss s = s.owner == 0 || (is_open_behind ss (s.number - 1) s.owner && kind_of ss s.owner == 1)

-- at most three levels, the outer one counted
unfoldable pub is_shallow : List Shape → Shape → Bool
is_shallow ss s = owner_of ss (owner_of ss s.owner) == 0

abbrev pub stands_in : ℕ → Shape → Bool
stands_in n t = t.owner == n

-- an item, a link, or a structure that stands in it
unfoldable pub has_member : List Shape → Shape → Bool
has_member ss s = not (is_empty s.items) || list_any (stands_in s.number) ss

-- ---- data sets

-- the items and links of a data set
unfoldable pub has_sound_items : List Shape → Shape → Bool
has_sound_items ss s =
    -- at most 60
    nat_le (length s.items) 60
    -- each with its name, type, initial value and what it points to
    && list_all (is_item_sound ss) s.items
    -- a record has at most 480 bytes
    && nat_le (record_width s.items) 480

-- the groups of a data set
unfoldable pub has_sound_groups : Shape → Bool
has_sound_groups s =
    -- no more than items, since no item is in two of them
    nat_le (length s.groups) (length s.items)
    -- each has a name and at least one item, ends within the items, and holds no link
    && list_all (is_group_sound s.items) s.groups
    -- they stand in the order of their items, and no item is in two of them
    && apart groups_follow s.groups

-- VERIFY: none, or a condition on the items
abbrev pub has_sound_verify : Shape → Bool
has_sound_verify s = is_nothing s.cond || is_condition s.items s.cond

-- nothing of what only sets and subsets have
unfoldable pub lacks_set_fields : Shape → Bool
lacks_set_fields s = s.set == 0 && s.form == 0 && not s.duplicates && is_empty s.parts

-- a data set or the restart data set
unfoldable pub is_data_set_sound : List Shape → Shape → Bool
is_data_set_sound ss s =
    -- POPULATION, the records that it may have
    is_within 1 1000000 s.population
    -- at least one member
    && has_member ss s
    && has_sound_items ss s
    && has_sound_groups s
    -- no name twice among items, links and groups
    && members_differ s.items s.groups
    && has_sound_verify s
    && lacks_set_fields s

-- the restart data set stands in no other
abbrev pub is_placed : Shape → Bool
is_placed s = not (is_restart s) || s.owner == 0

-- ---- sets and subsets

abbrev pub is_key_item : Option Item → Bool
is_key_item None = false
is_key_item (Some i) = not (is_link i.kind)

-- a part of a key is an item of the data set that is no link
abbrev pub is_part_sound : List Item → KeyPart → Bool
is_part_sound items p = is_key_item (item_at items p.item)

abbrev pub parts_differ : KeyPart → KeyPart → Bool
parts_differ a b = not (a.item == b.item)

abbrev pub width_in : Option Item → ℕ
width_in None = 0
width_in (Some i) = item_width i.kind

abbrev pub part_width : List Item → KeyPart → ℕ
part_width items p = width_in (item_at items p.item)

-- a key
unfoldable pub is_key_sound : List Item → List KeyPart → Bool
is_key_sound items ps =
    -- at most 16 parts
    nat_le (length ps) 16
    -- each an item of the data set that is no link
    && list_all (is_part_sound items) ps
    -- none of them twice
    && apart parts_differ ps
    -- at most 96 bytes
    && nat_le (total (part_width items) ps) 96

-- a set or subset stands where its data set stands; a manual subset of a data set that stands in no other may
-- stand in any data set but the restart data set
unfoldable pub is_set_placed : List Shape → Shape → Bool
is_set_placed ss s = s.owner == owner_of ss s.set || (is_manual s && owner_of ss s.set == 0)

-- POPULATION: the entries that a manual subset may have; the others say none
abbrev pub is_populated : Shape → Bool
is_populated s = if is_manual s then is_within 1 1000000 s.population else s.population == 0

-- an automatic subset has a WHERE, and no other set or subset has one
abbrev pub is_where_sound : List Item → Shape → Bool
is_where_sound items s = if is_automatic s then is_condition items s.cond else is_nothing s.cond

-- a set or subset
unfoldable pub is_set_sound : List Shape → Shape → Bool
is_set_sound ss s =
    -- its records are those of a data set
    is_data_set (kind_of ss s.set)
    && is_set_placed ss s
    && is_populated s
    -- INDEX SEQUENTIAL or ORDERED LIST
    && is_within 1 2 s.form
    && is_key_sound (items_at ss s.set) s.parts
    -- a set and an automatic subset have a key
    && (is_manual s || not (is_empty s.parts))
    -- without a key there are duplicates
    && (s.duplicates || not (is_empty s.parts))
    && is_where_sound (items_at ss s.set) s
    -- nothing of what only data sets have
    && is_empty s.items
    && is_empty s.groups

-- ---- structures

-- what its kind asks for
abbrev pub has_sound_fields : List Shape → Shape → Bool
has_sound_fields ss s = if is_data_set s.kind then is_data_set_sound ss s else is_set_sound ss s

-- a structure
unfoldable pub is_sound : List Shape → Shape → Bool
is_sound ss s =
    is_within 1 5 s.kind
    && is_name s.name
    && is_owned_well ss s
    && is_shallow ss s
    && is_placed s
    && has_sound_fields ss s

-- structures are numbered in their order
abbrev pub stand_in_order : ℕ → List Shape → Bool
stand_in_order n [] = true
stand_in_order n (s ∷ ss) = s.number == n && stand_in_order (n + 1) ss

abbrev pub names_differ : Shape → Shape → Bool
names_differ a b = not (bytes_eq a.name b.name)

abbrev pub not_both_restart : Shape → Shape → Bool
not_both_restart a b = not (is_restart a && is_restart b)

abbrev pub counted_in : Shape → ℕ
counted_in s = total (λ i. counted_one i.kind) s.items

-- ---- descriptions

-- each parameter is in its range
unfoldable pub has_parameters : Described → Bool
has_parameters d =
    -- SYNCPOINT and CONTROLPOINT
    is_within 1 10000 d.syncpoint
    && is_within 1 10000 d.controlpoint
    -- BUFFERS
    && is_within 8 4096 d.buffers
    -- BLOCKS and FILES of the audit trail
    && is_within 8 512 d.blocks
    && is_within 2 9999 d.files

-- the structures
unfoldable pub are_sound : List Shape → Bool
are_sound ss =
    -- at most 200
    nat_le (length ss) 200
    && stand_in_order 1 ss
    -- no name twice
    && apart names_differ ss
    -- exactly one restart data set
    && list_any is_restart ss
    && apart not_both_restart ss
    -- at most 4,000 counted links
    && nat_le (total counted_in ss) 4000
    && list_all (is_sound ss) ss

-- a description that a schema can have: its parameters, its structures, and at most 65,535 bytes
pub record IsWellFormed (d : Described) : Type 0 where
  pub parameters : IsTrue (has_parameters d)
  pub structures : IsTrue (are_sound d.structures)
  pub short : IsTrue (nat_le (length (spelling d)) 65535)
