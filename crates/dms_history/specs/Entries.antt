-- The entries of the audit, as its sealed blocks hold them one after another.
use Rattle.std.specs.Prelude.{ℕ, ◌+◌, ◌*◌, ◌==◌, ◌&&◌, nat_le, nat_lt, if◌then◌else◌, Bool, true, false, List, [], ◌∷◌, Option}
use Rattle.dms_history.specs.Events.{BlockBytes, Counts, How, halt_load, back_out, roll_back, rebuild, reconstruct}
use Rattle.dms_history.specs.Lists.{has}
use Rattle.dms_history.specs.declared.event.FileCount.{FileCount}
use Rattle.dms_history.specs.declared.event.Row.{Row}

-- how a restore goes, as its Begin says it: rebuild and reconstruct with the dump's number, reconstruct with the rows
pub data Kind : Type 0 where
  by_halt_load : Kind
  by_back_out : Kind
  by_roll_back : Kind
  by_rebuild : ℕ → Kind
  by_reconstruct : ℕ → List Row → Kind

-- schema_part part parts bytes: part `part`, from 1, of a description in so many parts
-- image f b before after: block b of file f before a change, none where it is new, and after it
-- byte_range f b place bytes: these bytes stand at that place of block b of file f after a change
-- quiet_point n, control_point n next counts, begin_restore n kind
pub data Entry : Type 0 where
  schema_part : ℕ → ℕ → List ℕ → Entry
  image : ℕ → ℕ → Option BlockBytes → BlockBytes → Entry
  byte_range : ℕ → ℕ → ℕ → List ℕ → Entry
  quiet_point : ℕ → Entry
  control_point : ℕ → ℕ → List FileCount → Entry
  begin_restore : ℕ → Kind → Entry

abbrev pub is_begin : Entry → Bool
is_begin (schema_part part parts bytes) = false
is_begin (image f b before after) = false
is_begin (byte_range f b place bytes) = false
is_begin (quiet_point n) = false
is_begin (control_point n next counts) = false
is_begin (begin_restore n kind) = true

-- the counts that a list says; a file that isn't named has count 0
abbrev pub counts_in : List FileCount → Counts
counts_in [] f = 0
counts_in (c ∷ cs) f = if c.file == f then c.blocks else counts_in cs f

-- block b of file f is in the row
abbrev pub is_in_row : ℕ → ℕ → Row → Bool
is_in_row f b row = (row.file == f) && (nat_le (16 * row.row) b && nat_lt b (16 * row.row + 16))

-- the blocks of some rows
abbrev pub named_by : List Row → ℕ → ℕ → Bool
named_by rows f b = has (is_in_row f b) rows

abbrev pub how_of : Kind → How
how_of by_halt_load = halt_load
how_of by_back_out = back_out
how_of by_roll_back = roll_back
how_of (by_rebuild d) = rebuild d
how_of (by_reconstruct d rows) = reconstruct d (named_by rows)
