-- The rows of a data set: its slots read one by one, whatever the ranges of their values.
use Rattle.std.specs.Prelude.{ℕ, zero, suc, ◌≡◌, ◌-◌, List, [], ◌∷◌, flat_map, Bool, true, ◌&&◌, ◌==◌, length, take, drop, slice_get}
use Rattle.std.specs.List.{list_all}
use Rattle.dms_desc.specs.Fitting.{values_fit}
use Rattle.dms_desc.specs.Shape.{Shape}
use Rattle.dms_layout.specs.declared.slot.SlotRead.{SlotRead}
use Rattle.dms_layout.specs.declared.slot.SlotRead.TheVariants.{Free, Used, Bad}
use Rattle.dms_layout.specs.Slots.{is_raw_slot, is_zero, raw_of, slot_width}
use Rattle.dms_slots.specs.SlotBlocks.{is_block, or_free, per_block, slots_of}

-- so many slots one after another, each in the format, and zeros behind them
abbrev pub are_raw_slots : Shape → ℕ → List ℕ → Bool
are_raw_slots s zero bytes = list_all is_zero bytes
are_raw_slots s (suc k) bytes = is_raw_slot s (take (slot_width s.items) bytes) && are_raw_slots s k (drop (slot_width s.items) bytes)

-- a block of a data set's file, whatever the ranges of its values
unfoldable pub is_row_block : Shape → List ℕ → Bool
is_row_block s bytes = (length bytes == 1024) && are_raw_slots s (per_block s.items) bytes

-- what so many slots one after another say
abbrev pub raw_chunks : Shape → ℕ → List ℕ → List SlotRead
raw_chunks s zero bytes = []
raw_chunks s (suc k) bytes = raw_of s (take (slot_width s.items) bytes) ∷ raw_chunks s k (drop (slot_width s.items) bytes)

-- the rows of a file in their order
abbrev pub raw_rows : Shape → List (List ℕ) → List SlotRead
raw_rows s bs = flat_map (raw_chunks s (per_block s.items)) bs

-- the row with a number, counted from 1; behind the last block it is free
abbrev pub row_at : Shape → List (List ℕ) → ℕ → SlotRead
row_at s bs number = or_free (slice_get (raw_rows s bs) (number - 1))

-- the values of a row fit
abbrev pub read_fits : Shape → SlotRead → Bool
read_fits s Free = true
read_fits s (Used slot) = values_fit s.items slot.rec.values
read_fits s Bad = true

-- Blocks are those of a data set exactly where each is in the format and each value fits; then their slots are their rows.
pub record RowsAgree : Type 0 where
  pub blocks : (s : Shape) (bs : List (List ℕ)) → list_all (is_block s) bs ≡ (list_all (is_row_block s) bs && list_all (read_fits s) (raw_rows s bs))
  pub rows : (s : Shape) (bs : List (List ℕ)) → list_all (is_block s) bs ≡ true → slots_of s bs ≡ raw_rows s bs
