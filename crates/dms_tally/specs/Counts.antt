-- What one record, one link and one entry of a manual subset add to what a record's slot counts, and those counts: sums over one record each.
use Rattle.std.specs.Prelude.{ℕ, ◌+◌, List, [], ◌∷◌, Bool, true, false, ◌&&◌, ◌==◌, if◌then◌else◌, sum_by, count_by}
use Rattle.std.specs.FinMap.{entries}
use Rattle.dms_base.specs.declared.value.Value.{Value}
use Rattle.dms_base.specs.declared.value.Value.TheVariants.{Null, Text, Number, Bool as Truth, Bits, Link as Reference}
use Rattle.dms_base.specs.declared.kind.ItemKind.{ItemKind}
use Rattle.dms_base.specs.declared.kind.ItemKind.TheVariants.{Alpha, Number as Decimal, Bool as OneBit, Field, Link}
use Rattle.dms_desc.specs.Lookups.{structure_of, items_of}
use Rattle.dms_desc.specs.Shape.{Described}
use Rattle.dms_desc.specs.declared.record.Record.{Record}
use Rattle.dms_desc.specs.declared.structure.Item.{Item}
use Rattle.dms_model.specs.Db.{Db, Place, Records, SubsetEntry}
use Rattle.dms_model.specs.Uses.{owns_entry, owns_record}
use Rattle.dms_model.specs.Valid.{link_stands}

-- ---- the counted links of a record

abbrev pub is_number : ℕ → Value → Bool
is_number n Null = false
is_number n (Text a) = false
is_number n (Number a) = false
is_number n (Truth a) = false
is_number n (Bits a) = false
is_number n (Reference number) = number == n

-- a value is a counted link to this record
abbrev pub is_counted_to : ℕ → ℕ → ItemKind → Value → Bool
is_counted_to set n (Alpha m) v = false
is_counted_to set n (Decimal m k s) v = false
is_counted_to set n OneBit v = false
is_counted_to set n (Field m) v = false
is_counted_to set n (Link to counted) v = counted && (to == set) && is_number n v

-- how many of these values are
abbrev pub links_to : ℕ → ℕ → List Item → List Value → ℕ
links_to set n [] vs = 0
links_to set n (i ∷ is) [] = 0
links_to set n (i ∷ is) (v ∷ vs) = (if is_counted_to set n i.kind v then 1 else 0) + links_to set n is vs

-- how many counted links of a record refer to the record n of the data set
abbrev pub links_of : Described → ℕ → ℕ → Place × Record → ℕ
links_of desc set n e = links_to set n (items_of (structure_of desc e.0.0)) e.1.values

-- how many counted links refer to a record
unfoldable pub counted_in : Described → Db → ℕ → ℕ → ℕ
counted_in desc db set n = sum_by (links_of desc set n) (entries db.records)

-- ---- what a record owns

-- 1 where it owns that record, of a data set that is embedded in its own
abbrev pub owners_of : Described → ℕ → ℕ → Place × Record → ℕ
owners_of desc set n e = if owns_record desc set n e then 1 else 0

-- 1 where it owns that entry of a manual subset
abbrev pub entries_at : Described → ℕ → ℕ → SubsetEntry → ℕ
entries_at desc set n e = if owns_entry desc set n e then 1 else 0

-- how many embedded records, and entries of manual subsets, a record owns
unfoldable pub owned_in : Described → Db → ℕ → ℕ → ℕ
owned_in desc db set n = count_by (owns_record desc set n) (entries db.records) + count_by (owns_entry desc set n) db.entries

-- ---- what stands

-- what each link of these values refers to exists
abbrev pub links_stand : Records → List Item → List Value → Bool
links_stand records [] vs = true
links_stand records (i ∷ is) [] = true
links_stand records (i ∷ is) (v ∷ vs) = link_stands records i.kind v && links_stand records is vs
