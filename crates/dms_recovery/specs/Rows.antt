-- The rows that a statement names.
use Rattle.std.specs.Prelude.{ℕ, ◌+◌, ◌/◌, ◌≡◌, ◌≤◌, nat_lt, if◌then◌else◌, Bool, false, List, [], ◌∷◌, length, Some, None}
use Rattle.std.specs.declared.option.Option.{Option}
use Rattle.dms_desc.specs.Lookups.{structure_named}
use Rattle.dms_desc.specs.Shape.{Shape}
use Rattle.dms_history.specs.Entries.{is_in_row, named_by}
use Rattle.dms_history.specs.Lists.{has}
use Rattle.dms_history.specs.declared.event.Row.{Row}
use Rattle.dms_audrec.specs.Spelling.{AreRows}
use Rattle.dms_restore.specs.Counts.{count_of}
use Rattle.dms_statements.specs.declared.statement.NamedRow.{NamedRow}

-- how many rows so many blocks are: 16 each, the last one what is left
abbrev pub rows_of_blocks : ℕ → ℕ
rows_of_blocks blocks = (blocks + 15) / 16

-- row n of a structure as that of its file, which is 30,000 and its number
abbrev pub row_of_structure : Option Shape → List ℕ → ℕ → Option Row
row_of_structure None counts n = None
row_of_structure (Some s) counts n = if nat_lt n (rows_of_blocks (count_of counts (30000 + s.number))) then Some (record { file = 30000 + s.number; row = n }) else None

-- so is a row that is named
abbrev pub row_there : List Shape → List ℕ → NamedRow → Option Row
row_there structures counts r = row_of_structure (structure_named r.name structures) counts r.row

abbrev pub missing_or : Option Row → NamedRow → Option NamedRow → Option NamedRow
missing_or None r rest = Some r
missing_or (Some x) r rest = rest

-- the first one that isn't there
abbrev pub first_missing : List Shape → List ℕ → List NamedRow → Option NamedRow
first_missing structures counts [] = None
first_missing structures counts (r ∷ rs) = missing_or (row_there structures counts r) r (first_missing structures counts rs)

-- block b of file f is in row n of a structure
abbrev pub is_block_of : Option Shape → ℕ → ℕ → ℕ → Bool
is_block_of None n f b = false
is_block_of (Some s) n f b = is_in_row f b (record { file = 30000 + s.number; row = n })

abbrev pub is_named_block : List Shape → ℕ → ℕ → NamedRow → Bool
is_named_block structures f b r = is_block_of (structure_named r.name structures) r.row f b

-- it is in one of the rows that are named
abbrev pub named_blocks : List Shape → List NamedRow → ℕ → ℕ → Bool
named_blocks structures named f b = has (is_named_block structures f b) named

-- These rows of structure files are those that are named: they rise, they are at most 100, and they have the same blocks.
pub record AreRowsOf (structures : List Shape) (named : List NamedRow) (rows : List Row) : Type 0 where
  pub are : AreRows rows
  pub hundred : length rows ≤ 100
  pub same : (f b : ℕ) → named_by rows f b ≡ named_blocks structures named f b
