-- What a structure of a description has of others.
use Rattle.std.specs.Prelude.{List, Bool, not, ◌&&◌, ◌||◌, ◌==◌, nat_lt, if◌then◌else◌}
use Rattle.std.specs.List.{list_all}
use Rattle.dms_desc.specs.Shape.{Shape}
use Rattle.dms_desc_bytes.specs.Finding.{kind_of, items_at}
use Rattle.dms_desc_bytes.specs.Lists.{is_empty}
use Rattle.dms_desc_bytes.specs.Members.{is_item_sound}
use Rattle.dms_desc_bytes.specs.Spelling.{is_data_set}
use Rattle.dms_desc_bytes.specs.WellFormed.{is_set_placed, is_key_sound, is_where_sound}

-- a set or subset is of a data set, stands where that allows it, and has a key and a WHERE of its items; only a manual
-- subset may be without a key
unfoldable pub is_set_together : List Shape → Shape → Bool
is_set_together ss s =
    is_data_set (kind_of ss s.set)
    && is_set_placed ss s
    && is_key_sound (items_at ss s.set) s.parts
    && is_where_sound (items_at ss s.set) s
    && (s.kind == 5 || not (is_empty s.parts))

-- a data set has sound items, and its links point to data sets that stand in no other
unfoldable pub is_sound_together : List Shape → Shape → Bool
is_sound_together ss s = if is_data_set s.kind then list_all (is_item_sound ss) s.items else is_set_together ss s

-- it stands in no other, or in a data set that comes before it
abbrev pub is_within_earlier : List Shape → Shape → Bool
is_within_earlier ss s = s.owner == 0 || (nat_lt s.owner s.number && is_data_set (kind_of ss s.owner))
