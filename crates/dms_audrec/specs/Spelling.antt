-- The one spelling of each audit entry, and which entries have one.
use Rattle.std.specs.Prelude.{ℕ, ◌<◌, ◌≤◌, ◌^◌, ◌*◌, ◌+◌, ◌≡◌, ◌&&◌, nat_le, Bool, true, List, [], ◌∷◌, ◌++◌, length, Option, Some, None, IfSome}
use Rattle.std.specs.Int.{w16, w32, w64, to_be_bytes}
use Rattle.dms_history.specs.Entries.{Entry, schema_part, image, byte_range, quiet_point, control_point, begin_restore, Kind, by_halt_load, by_back_out, by_roll_back, by_rebuild, by_reconstruct}
use Rattle.dms_history.specs.declared.event.FileCount.{FileCount}
use Rattle.dms_history.specs.declared.event.Row.{Row}

-- the image of a block before a change, where it isn't new
abbrev pub before_bytes : Option (List ℕ) → List ℕ
before_bytes None = 0 ∷ []
before_bytes (Some bytes) = 1 ∷ bytes

-- a list of pairs of numbers
abbrev pub pair_bytes : {A : Type 0} → (A → ℕ) → (A → ℕ) → List A → List ℕ
pair_bytes one two [] = []
pair_bytes one two (x ∷ xs) = to_be_bytes w32 (one x) ++ (to_be_bytes w32 (two x) ++ pair_bytes one two xs)

abbrev pub count_file : FileCount → ℕ
count_file c = c.file

abbrev pub count_blocks : FileCount → ℕ
count_blocks c = c.blocks

abbrev pub row_file : Row → ℕ
row_file r = r.file

abbrev pub row_number : Row → ℕ
row_number r = r.row

abbrev pub how_number : Kind → ℕ
how_number by_halt_load = 1
how_number by_back_out = 2
how_number by_roll_back = 3
how_number (by_rebuild d) = 4
how_number (by_reconstruct d rows) = 5

abbrev pub dump_of : Kind → ℕ
dump_of by_halt_load = 0
dump_of by_back_out = 0
dump_of by_roll_back = 0
dump_of (by_rebuild d) = d
dump_of (by_reconstruct d rows) = d

abbrev pub rows_of : Kind → List Row
rows_of by_halt_load = []
rows_of by_back_out = []
rows_of by_roll_back = []
rows_of (by_rebuild d) = []
rows_of (by_reconstruct d rows) = rows

-- a Begin of this number of a kind
abbrev pub begin_bytes : ℕ → ℕ → ℕ → List Row → List ℕ
begin_bytes n how dump rows =
    5 ∷ (to_be_bytes w64 n ++ (how ∷ (to_be_bytes w16 dump ++ (to_be_bytes w16 (length rows) ++ pair_bytes row_file row_number rows))))

abbrev pub spelling : Entry → List ℕ
spelling (schema_part part parts bytes) = 1 ∷ (to_be_bytes w16 part ++ (to_be_bytes w16 parts ++ (to_be_bytes w16 (length bytes) ++ bytes)))
spelling (image f b before after) = 2 ∷ (to_be_bytes w32 f ++ (to_be_bytes w32 b ++ (before_bytes before ++ after)))
spelling (byte_range f b place bytes) = 6 ∷ (to_be_bytes w32 f ++ (to_be_bytes w32 b ++ (to_be_bytes w16 place ++ (to_be_bytes w16 (length bytes) ++ bytes))))
spelling (quiet_point n) = 3 ∷ to_be_bytes w64 n
spelling (control_point n next counts) = 4 ∷ (to_be_bytes w64 n ++ (to_be_bytes w64 next ++ (to_be_bytes w16 (length counts) ++ pair_bytes count_file count_blocks counts)))
spelling (begin_restore n kind) = begin_bytes n (how_number kind) (dump_of kind) (rows_of kind)

-- ---- which entries are in the grammar

-- counts of structure files, their numbers rising, from `low` on
abbrev pub counts_rise : ℕ → List FileCount → Bool
counts_rise low [] = true
counts_rise low (c ∷ cs) = nat_le low c.file && (nat_le c.file 30200 && (nat_le c.blocks 2097152 && counts_rise (c.file + 1) cs))

-- rows of structure files, rising by file and row; `low` is file * 2^32 + row of the least that may follow
abbrev pub rows_rise : ℕ → List Row → Bool
rows_rise low [] = true
rows_rise low (r ∷ rs) = nat_le 30001 r.file && (nat_le r.file 30200 && (nat_le low (r.file * 2 ^ 32 + r.row) && rows_rise (r.file * 2 ^ 32 + r.row + 1) rs))

-- both numbers of each pair fit four bytes
abbrev pub ArePairsSmall : {A : Type 0} → (A → ℕ) → (A → ℕ) → List A → Type 0
ArePairsSmall one two [] = Unit {0}
ArePairsSmall one two (x ∷ xs) = (one x < 2 ^ 32) × (two x < 2 ^ 32) × ArePairsSmall one two xs

pub record IsSchemaSpelled (part parts : ℕ) (bytes : List ℕ) : Type 0 where
  pub some : 1 ≤ part
  pub within : part ≤ parts
  pub small : parts < 2 ^ 16
  pub short : length bytes < 2 ^ 16
  pub full : part < parts → length bytes ≡ 4000

pub record IsImage (f b : ℕ) (before : Option (List ℕ)) (after : List ℕ) : Type 0 where
  pub low : 30001 ≤ f
  pub high : f ≤ 30200
  pub place : b < 2097152
  pub old_size : IfSome before (λ bytes. length bytes ≡ 1024)
  pub new_size : length after ≡ 1024

-- some bytes of a block of a structure file, at a place in it
pub record IsRange (f b place : ℕ) (bytes : List ℕ) : Type 0 where
  pub low : 30001 ≤ f
  pub high : f ≤ 30200
  pub block : b < 2097152
  pub some : 1 ≤ length bytes
  pub within : place + length bytes ≤ 1024

pub record IsControl (n next : ℕ) (counts : List FileCount) : Type 0 where
  pub number : n < 2 ^ 64
  pub next_number : next < 2 ^ 64
  pub few : length counts < 2 ^ 16
  pub rising : counts_rise 30001 counts ≡ true
  pub small : ArePairsSmall count_file count_blocks counts

abbrev pub IsDump : ℕ → Type 0
IsDump d = (1 ≤ d) × (d ≤ 9999)

pub record AreRows (rows : List Row) : Type 0 where
  pub few : length rows < 2 ^ 16
  pub rising : rows_rise 0 rows ≡ true
  pub small : ArePairsSmall row_file row_number rows

abbrev pub IsRestoreKind : Kind → Type 0
IsRestoreKind by_halt_load = Unit {0}
IsRestoreKind by_back_out = Unit {0}
IsRestoreKind by_roll_back = Unit {0}
IsRestoreKind (by_rebuild d) = IsDump d
IsRestoreKind (by_reconstruct d rows) = IsDump d × AreRows rows

-- what has a spelling
abbrev pub IsEntry : Entry → Type 0
IsEntry (schema_part part parts bytes) = IsSchemaSpelled part parts bytes
IsEntry (image f b before after) = IsImage f b before after
IsEntry (byte_range f b place bytes) = IsRange f b place bytes
IsEntry (quiet_point n) = n < 2 ^ 64
IsEntry (control_point n next counts) = IsControl n next counts
IsEntry (begin_restore n kind) = (n < 2 ^ 64) × IsRestoreKind kind
