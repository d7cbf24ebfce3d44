-- The bytes of a record's slot in a data set's file, and what a slot's bytes say.
use Rattle.std.specs.Prelude.{ℕ, ℤ, pos, negsuc, ◌+◌, ◌-◌, ◌^◌, ◌<◌, List, [], ◌∷◌, ◌++◌, Bool, true, false, not, ◌&&◌, ◌||◌, ◌==◌, nat_lt, Some, None, if◌then◌else◌, IsTrue, length, take, drop, slice_index}
use Rattle.std.specs.declared.option.Option.{Option}
use Rattle.std.specs.Int.{w32, w64, to_be_bytes}
use Rattle.std.specs.List.{list_all}
use Rattle.std.specs.Str.{bytes_eq}
use Rattle.dms_fields.specs.Fields.{number_at}
use Rattle.dms_base.specs.declared.value.Value.{Value}
use Rattle.dms_base.specs.declared.value.Value.TheVariants.{Null, Text, Number, Bool as Truth, Bits, Link as Reference}
use Rattle.dms_base.specs.declared.kind.ItemKind.{ItemKind}
use Rattle.dms_base.specs.declared.kind.ItemKind.TheVariants.{Alpha, Number as Decimal, Bool as OneBit, Field, Link}
use Rattle.dms_base.specs.Fits.{IsKind}
use Rattle.dms_base.specs.Text.{text_of}
use Rattle.dms_desc.specs.declared.structure.Item.{Item}
use Rattle.dms_desc.specs.Fitting.{values_fit}
use Rattle.dms_desc.specs.Plain.{ArePlain}
use Rattle.dms_desc.specs.Shape.{Shape}
use Rattle.dms_desc.specs.Widths.{item_width, record_width}
use Rattle.dms_key.specs.KeyBytes.{field_bytes}
use Rattle.dms_layout.specs.declared.slot.Slot.{Slot}
use Rattle.dms_layout.specs.declared.slot.SlotRead.{SlotRead}
use Rattle.dms_layout.specs.declared.slot.SlotRead.TheVariants.{Free, Used, Bad}

-- ---- what is written

-- the values of a record, in the order of its items
abbrev pub record_bytes : List Item → List Value → List ℕ
record_bytes [] vs = []
record_bytes (i ∷ is) [] = []
record_bytes (i ∷ is) (v ∷ vs) = field_bytes i.kind v ++ record_bytes is vs

-- how many bytes a slot has
abbrev pub slot_width : List Item → ℕ
slot_width items = 13 + record_width items

-- a used slot: 1, the number of the owner's record, how many counted links refer to the record, how many records and
-- entries it owns, and its values
abbrev pub slot_bytes : List Item → Slot → List ℕ
slot_bytes items slot = 1 ∷ to_be_bytes w32 slot.rec.owner ++ (to_be_bytes w32 slot.counted ++ (to_be_bytes w32 slot.owned ++ record_bytes items slot.rec.values))

-- ---- what fits

-- a record of a data set that stands in no other has no owner
abbrev pub may_own : Shape → ℕ → Bool
may_own s owner = not (s.owner == 0) || owner == 0

-- a slot that a data set's file may have
pub record SlotFits (s : Shape) (slot : Slot) : Type 0 where
  pub owner : slot.rec.owner < 2 ^ 32
  pub disjoint : IsTrue (may_own s slot.rec.owner)
  pub counted : slot.counted < 2 ^ 32
  pub owned : slot.owned < 2 ^ 32
  pub values : IsTrue (values_fit s.items slot.rec.values)
  pub plain : ArePlain slot.rec.values

-- the kinds of items are those that a schema can declare
abbrev pub AreKinds : List Item → Type 0
AreKinds [] = Unit {0}
AreKinds (i ∷ is) = IsKind i.kind × AreKinds is

-- ---- what is read

abbrev pub or_zero : Option ℕ → ℕ
or_zero None = 0
or_zero (Some n) = n

abbrev pub text_or_null : Option (List ℕ) → Value
text_or_null None = Null
text_or_null (Some bytes) = Text bytes

-- the number that was moved so that the least one is 0
abbrev pub shift_down : ℕ → ℤ
shift_down n = if nat_lt n (2 ^ 63) then negsuc (2 ^ 63 - n - 1) else pos (n - 2 ^ 63)

-- what a value's bytes say behind the byte for its presence
abbrev pub value_in : ItemKind → List ℕ → Value
value_in (Alpha n) field = text_or_null (text_of (drop 1 field))
value_in (Decimal n m s) field = Number (shift_down (or_zero (number_at w64 field 1)))
value_in OneBit field = Truth (slice_index field 1 == 1)
value_in (Field n) field = Bits (or_zero (number_at w64 field 1))
value_in (Link to counted) field = Reference (or_zero (number_at w32 field 1))

abbrev pub value_at : ItemKind → List ℕ → Value
value_at k field = if slice_index field 0 == 255 then Null else value_in k field

-- the values of a record
abbrev pub values_at : List Item → List ℕ → List Value
values_at [] bytes = []
values_at (i ∷ is) bytes = value_at i.kind (take (item_width i.kind) bytes) ∷ values_at is (drop (item_width i.kind) bytes)

abbrev pub slot_in : List Item → List ℕ → Slot
slot_in items bytes = record {
  rec = record { owner = or_zero (number_at w32 bytes 1); values = values_at items (drop 13 bytes) };
  counted = or_zero (number_at w32 bytes 5);
  owned = or_zero (number_at w32 bytes 9);
}

abbrev pub is_zero : ℕ → Bool
is_zero b = b == 0

-- a free slot has zeros alone
unfoldable pub is_free : List Item → List ℕ → Bool
is_free items bytes = list_all is_zero bytes && length bytes == slot_width items

-- these bytes are the spelling of this slot, and it fits
unfoldable pub is_spelled : Shape → List ℕ → Slot → Bool
is_spelled s bytes slot = bytes_eq bytes (slot_bytes s.items slot) && (may_own s slot.rec.owner && values_fit s.items slot.rec.values)

abbrev pub slot_by : Bool → Bool → Slot → SlotRead
slot_by true spelled slot = Free
slot_by false true slot = Used slot
slot_by false false slot = Bad

-- what a slot's bytes say: nothing stands there, the record whose spelling they are, or neither
unfoldable pub slot_of : Shape → List ℕ → SlotRead
slot_of s bytes = slot_by (is_free s.items bytes) (is_spelled s bytes (slot_in s.items bytes)) (slot_in s.items bytes)

-- ---- what is spelled, whatever its range

-- these bytes spell the value that is read of them: a number or a field of bits may be out of its range
abbrev pub is_raw_field : ItemKind → List ℕ → Bool
is_raw_field k field = bytes_eq field (field_bytes k (value_at k field))

abbrev pub are_raw_fields : List Item → List ℕ → Bool
are_raw_fields [] bytes = bytes_eq bytes []
are_raw_fields (i ∷ is) bytes = is_raw_field i.kind (take (item_width i.kind) bytes) && are_raw_fields is (drop (item_width i.kind) bytes)

-- what stands before the fields, spelled again
abbrev pub head_bytes : List ℕ → List ℕ
head_bytes bytes = 1 ∷ to_be_bytes w32 (or_zero (number_at w32 bytes 1)) ++ (to_be_bytes w32 (or_zero (number_at w32 bytes 5)) ++ to_be_bytes w32 (or_zero (number_at w32 bytes 9)))

-- the spelling of the slot that is read, whatever the ranges of its values
unfoldable pub is_raw : Shape → List ℕ → Bool
is_raw s bytes = bytes_eq (take 13 bytes) (head_bytes bytes) && (may_own s (or_zero (number_at w32 bytes 1)) && are_raw_fields s.items (drop 13 bytes))

-- a slot in the format
abbrev pub is_raw_slot : Shape → List ℕ → Bool
is_raw_slot s bytes = is_free s.items bytes || is_raw s bytes

-- what a slot's bytes say, whatever the ranges of its values
unfoldable pub raw_of : Shape → List ℕ → SlotRead
raw_of s bytes = slot_by (is_free s.items bytes) (is_raw s bytes) (slot_in s.items bytes)

-- what was read is bad, or free
abbrev pub reads_bad : SlotRead → Bool
reads_bad Free = false
reads_bad (Used slot) = false
reads_bad Bad = true

abbrev pub reads_free : SlotRead → Bool
reads_free Free = true
reads_free (Used slot) = false
reads_free Bad = false
