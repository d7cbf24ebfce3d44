-- What each structure of a description has by itself, whatever else is declared.
use Rattle.std.specs.Prelude.{length, Bool, not, ◌&&◌, ◌||◌, nat_le, if◌then◌else◌}
use Rattle.std.specs.List.{list_all}
use Rattle.dms_base.specs.Name.{is_name}
use Rattle.dms_base.specs.Fits.{fits}
use Rattle.dms_base.specs.Spelling.{is_kind}
use Rattle.dms_desc.specs.declared.structure.Item.{Item}
use Rattle.dms_desc.specs.Shape.{Shape}
use Rattle.dms_desc_bytes.specs.Lists.{is_within, is_empty}
use Rattle.dms_desc_bytes.specs.Members.{is_plain, members_differ}
use Rattle.dms_desc_bytes.specs.Spelling.{is_data_set}
use Rattle.dms_desc.specs.Widths.{record_width}
use Rattle.dms_desc_bytes.specs.WellFormed.{has_sound_groups, has_sound_verify, lacks_set_fields, is_populated}

-- an item's name, the range of its type, and its initial value
abbrev pub is_local : Item → Bool
is_local i = is_name i.name && is_kind i.kind && fits i.kind i.initial && is_plain i.initial

-- at most 60 items and links, each of them so, and records of at most 480 bytes
unfoldable pub has_local_items : Shape → Bool
has_local_items s = nat_le (length s.items) 60 && list_all is_local s.items && nat_le (record_width s.items) 480

-- a data set or the restart data set: all but that it has a member and what its links point to
unfoldable pub is_data_set_alone : Shape → Bool
is_data_set_alone s =
    is_within 1 1000000 s.population
    && has_local_items s
    && has_sound_groups s
    && members_differ s.items s.groups
    && has_sound_verify s
    && lacks_set_fields s

-- a set or subset: its numbers, duplicates where it has no key, and nothing of what only data sets have
unfoldable pub is_set_alone : Shape → Bool
is_set_alone s =
    is_populated s
    && is_within 1 2 s.form
    && (s.duplicates || not (is_empty s.parts))
    && is_empty s.items
    && is_empty s.groups

-- a structure
unfoldable pub is_sound_alone : Shape → Bool
is_sound_alone s = is_name s.name && (if is_data_set s.kind then is_data_set_alone s else is_set_alone s)
