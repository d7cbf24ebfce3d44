-- Reading an entry from the front of bytes.
use Rattle.std.specs.Prelude.{ℕ, zero, suc, ◌+◌, ◌*◌, List, [], ◌∷◌, length, Bool, Option, Some, None, nat_lt, nat_le, ◌==◌, ◌&&◌, ◌||◌, if◌then◌else◌}
use Rattle.std.specs.Int.{w16, w32, w64}
use Rattle.dms_history.specs.Entries.{Entry, schema_part, image, byte_range, quiet_point, control_point, begin_restore, Kind, by_halt_load, by_back_out, by_roll_back, by_rebuild, by_reconstruct}
use Rattle.dms_history.specs.declared.event.FileCount.{FileCount}
use Rattle.dms_history.specs.declared.event.Row.{Row}
use Rattle.dms_fields.specs.Prefix.{◌>>=◌, byte_first, number_first, bytes_first, pairs_first}
use Rattle.dms_audrec.specs.Spelling.{counts_rise, rows_rise}

abbrev pub count_of : ℕ → ℕ → FileCount
count_of f n = record { file = f; blocks = n }

abbrev pub row_of : ℕ → ℕ → Row
row_of f r = record { file = f; row = r }

unfoldable pub counts_at : ℕ → List ℕ → List FileCount
counts_at n bytes = pairs_first count_of n bytes

unfoldable pub rows_at : ℕ → List ℕ → List Row
rows_at n bytes = pairs_first row_of n bytes

unfoldable pub schema_at : List ℕ → Option (Entry × List ℕ)
schema_at bytes = do
  part ← number_first w16 bytes
  parts ← number_first w16 part.1
  len ← number_first w16 parts.1
  text ← bytes_first len.0 len.1
  if nat_le 1 part.0 && nat_le part.0 parts.0 && (parts.0 == part.0 || len.0 == 4000) then Some (schema_part part.0 parts.0 text.0, text.1) else None

unfoldable pub before_at : List ℕ → Option (Option (List ℕ) × List ℕ)
before_at [] = None
before_at (zero ∷ rest) = Some (None, rest)
before_at (suc zero ∷ rest) = do
  bytes ← bytes_first 1024 rest
  Some (Some bytes.0, bytes.1)
before_at (suc (suc b) ∷ rest) = None

unfoldable pub image_at : List ℕ → Option (Entry × List ℕ)
image_at bytes = do
  file ← number_first w32 bytes
  block ← number_first w32 file.1
  before ← before_at block.1
  after ← bytes_first 1024 before.1
  if nat_le 30001 file.0 && nat_le file.0 30200 && nat_lt block.0 2097152 then Some (image file.0 block.0 before.0 after.0, after.1) else None

unfoldable pub quiet_at : List ℕ → Option (Entry × List ℕ)
quiet_at bytes = do
  n ← number_first w64 bytes
  Some (quiet_point n.0, n.1)

unfoldable pub control_at : List ℕ → Option (Entry × List ℕ)
control_at bytes = do
  n ← number_first w64 bytes
  next ← number_first w64 n.1
  files ← number_first w16 next.1
  list ← bytes_first (8 * files.0) files.1
  if counts_rise 30001 (counts_at files.0 list.0) then Some (control_point n.0 next.0 (counts_at files.0 list.0), list.1) else None

-- the kind with that number; only numbers 1 to 5 are in the grammar
abbrev pub kind_of : ℕ → ℕ → List Row → Kind
kind_of how d rows = if how == 1 then by_halt_load else if how == 2 then by_back_out else if how == 3 then by_roll_back else if how == 4 then by_rebuild d else by_reconstruct d rows

abbrev pub kind_fits : ℕ → ℕ → List Row → Bool
kind_fits how d rows =
    if how == 5 then nat_le 1 d && (nat_le d 9999 && rows_rise 0 rows)
    else (length rows == 0) && (if how == 4 then nat_le 1 d && nat_le d 9999 else nat_le 1 how && (nat_le how 3 && (d == 0)))

unfoldable pub begin_at : List ℕ → Option (Entry × List ℕ)
begin_at bytes = do
  n ← number_first w64 bytes
  how ← byte_first n.1
  dump ← number_first w16 how.1
  rows ← number_first w16 dump.1
  list ← bytes_first (8 * rows.0) rows.1
  if kind_fits how.0 dump.0 (rows_at rows.0 list.0) then Some (begin_restore n.0 (kind_of how.0 dump.0 (rows_at rows.0 list.0)), list.1) else None

-- the bytes are at least one, and stand within the block
abbrev pub range_fits : ℕ → ℕ → ℕ → ℕ → Bool
range_fits file block place len = nat_le 30001 file && (nat_le file 30200 && (nat_lt block 2097152 && (nat_le 1 len && nat_le (place + len) 1024)))

unfoldable pub range_at : List ℕ → Option (Entry × List ℕ)
range_at bytes = do
  file ← number_first w32 bytes
  block ← number_first w32 file.1
  place ← number_first w16 block.1
  len ← number_first w16 place.1
  text ← bytes_first len.0 len.1
  if range_fits file.0 block.0 place.0 len.0 then Some (byte_range file.0 block.0 place.0 text.0, text.1) else None

unfoldable pub entry_at : List ℕ → Option (Entry × List ℕ)
entry_at [] = None
entry_at (kind ∷ rest) = if kind == 1 then schema_at rest else if kind == 2 then image_at rest else if kind == 3 then quiet_at rest else if kind == 4 then control_at rest else if kind == 5 then begin_at rest else if kind == 6 then range_at rest else None
