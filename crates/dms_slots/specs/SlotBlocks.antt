-- The slots of a data set's file: those of its blocks, one block after another.
use Rattle.std.specs.Prelude.{ℕ, zero, suc, ◌+◌, ◌-◌, ◌*◌, ◌/◌, ◌%◌, ◌<◌, ◌≤◌, ◌≡◌, ◌≢◌, List, [], ◌∷◌, flat_map, Bool, true, false, ◌&&◌, ◌==◌, Some, None, if◌then◌else◌, IsTrue, length, take, drop, replicate, nat_le, slice_get, slice_set, slice_index_or}
use Rattle.std.specs.declared.option.Option.{Option}
use Rattle.std.specs.List.{list_all}
use Rattle.dms_block.specs.Content.{Content, with_block}
use Rattle.dms_fields.specs.Fields.{lay_bytes}
use Rattle.dms_desc.specs.Files.{file_of}
use Rattle.dms_desc.specs.declared.structure.Item.{Item}
use Rattle.dms_desc.specs.Shape.{Shape}
use Rattle.dms_layout.specs.declared.slot.Slot.{Slot}
use Rattle.dms_layout.specs.declared.slot.SlotRead.{SlotRead}
use Rattle.dms_layout.specs.declared.slot.SlotRead.TheVariants.{Free, Used, Bad}
use Rattle.dms_layout.specs.Slots.{slot_width, slot_of, is_zero}

-- how many whole slots fit into a block
abbrev pub per_block : List Item → ℕ
per_block items = 1024 / slot_width items

-- the block of a record's slot, and its place there
abbrev pub block_of : List Item → ℕ → ℕ
block_of items number = (number - 1) / per_block items

abbrev pub place_of : List Item → ℕ → ℕ
place_of items number = (number - 1) % per_block items

abbrev pub is_slot : SlotRead → Bool
is_slot Free = true
is_slot (Used slot) = true
is_slot Bad = false

abbrev pub is_free : SlotRead → Bool
is_free Free = true
is_free (Used slot) = false
is_free Bad = false

-- so many slots one after another, each free or used, and zeros behind them
abbrev pub are_slots : Shape → ℕ → List ℕ → Bool
are_slots s zero bytes = list_all is_zero bytes
are_slots s (suc k) bytes = is_slot (slot_of s (take (slot_width s.items) bytes)) && are_slots s k (drop (slot_width s.items) bytes)

-- a block of a data set's file: 1,024 bytes, as many whole slots as fit, and zeros
unfoldable pub is_block : Shape → List ℕ → Bool
is_block s bytes = (length bytes == 1024) && are_slots s (per_block s.items) bytes

-- so many slots one after another
abbrev pub slot_chunks : Shape → ℕ → List ℕ → List SlotRead
slot_chunks s zero bytes = []
slot_chunks s (suc k) bytes = slot_of s (take (slot_width s.items) bytes) ∷ slot_chunks s k (drop (slot_width s.items) bytes)

abbrev pub slots_by : Bool → Shape → List ℕ → List SlotRead
slots_by true s bytes = slot_chunks s (per_block s.items) bytes
slots_by false s bytes = replicate (per_block s.items) Bad

-- the slots of a block, each bad where the block is none
unfoldable pub slots_in : Shape → List ℕ → List SlotRead
slots_in s bytes = slots_by (is_block s bytes) s bytes

-- the slots of a file in their order
abbrev pub slots_of : Shape → List (List ℕ) → List SlotRead
slots_of s bs = flat_map (slots_in s) bs

abbrev pub or_free : Option SlotRead → SlotRead
or_free None = Free
or_free (Some r) = r

-- the slot of the record with a number, counted from 1; behind the last block it is free
abbrev pub slot_at : Shape → List (List ℕ) → ℕ → SlotRead
slot_at s bs number = or_free (slice_get (slots_of s bs) (number - 1))

abbrev pub slot_opt : Option Slot → SlotRead
slot_opt None = Free
slot_opt (Some slot) = Used slot

-- how many slots stand before the first free one. A slot of a block that is none is bad, and so not free
abbrev pub before_free : List SlotRead → ℕ
before_free [] = 0
before_free (r ∷ rs) = if is_free r then 0 else suc (before_free rs)

-- a number, where it isn't above the most
abbrev pub within : ℕ → ℕ → Option ℕ
within most n = if nat_le n most then Some n else None

-- this block of the file isn't one of a data set
abbrev pub BadBlock : Bool → Shape → ℕ → List (List ℕ) → ℕ → ℕ → Type 0
BadBlock told s file bs f b = (f ≡ file) × (IsTrue told → (b < length bs) × (is_block s (slice_index_or bs b []) ≡ false))

-- What these bytes in the place of a slot make of a block: it is one, and that slot alone is another.
abbrev pub LaysSlot : Shape → ℕ → List ℕ → List ℕ → Type 0
LaysSlot s p x block = (is_block s (lay_bytes (p * slot_width s.items) x block) ≡ true)
    × (slots_in s (lay_bytes (p * slot_width s.items) x block) ≡ slice_set (slots_in s block) p (slot_of s x))

-- the bytes of a block, zeros where there is none yet
abbrev pub block_or_zeros : Option (List ℕ) → List ℕ
block_or_zeros None = replicate 1024 0
block_or_zeros (Some bytes) = bytes

abbrev pub block_at : List (List ℕ) → ℕ → List ℕ
block_at bs b = block_or_zeros (slice_get bs b)

-- the least number whose slot is free, where it isn't above POPULATION
abbrev pub least_free : Shape → List (List ℕ) → Option ℕ
least_free s bs = within s.population (before_free (slots_of s bs) + 1)

-- the first slots of a file aren't free
abbrev pub AreTaken : Shape → List (List ℕ) → ℕ → Type 0
AreTaken s bs n = n ≤ before_free (slots_of s bs)

-- the slot of the record with a number, among all files
abbrev pub record_slot : Shape → Content → ℕ → SlotRead
record_slot s c number = slot_at s (c (file_of s.number)) number

-- the slots of all records but one are the same
abbrev pub OtherSlotsStay : Shape → ℕ → Content → Content → Type 0
OtherSlotsStay s number old new = (other : ℕ) → 1 ≤ other → other ≢ number → record_slot s new other ≡ record_slot s old other

-- all files, with these bytes in the place of the slot of a record
abbrev pub slot_put : Shape → ℕ → List ℕ → Content → Content
slot_put s number bytes c = with_block c (file_of s.number) (block_of s.items number)
    (lay_bytes (place_of s.items number * slot_width s.items) bytes (block_at (c (file_of s.number)) (block_of s.items number)))

-- the slot of a number may be written: it stands in a block of the file or in the next one, and isn't bad
pub record MayPutSlot (s : Shape) (c : Content) (number : ℕ) : Type 0 where
  pub fits : slot_width s.items ≤ 1024
  pub low : 1 ≤ number
  pub next : block_of s.items number ≤ length (c (file_of s.number))
  pub sound : slot_at s (c (file_of s.number)) number ≢ Bad
