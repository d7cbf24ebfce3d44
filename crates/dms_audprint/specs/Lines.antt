-- The line that is printed of an entry of the audit.
use Rattle.std.specs.Prelude.{ℕ, List, [], ◌∷◌, ◌++◌, codes, decimal, length, Option, Some, None}
use Rattle.dms_history.specs.Entries.{Entry, schema_part, image, byte_range, quiet_point, control_point, begin_restore, Kind, by_halt_load, by_back_out, by_roll_back, by_rebuild, by_reconstruct}
use Rattle.dms_history.specs.Events.{BlockBytes}

-- words, the number behind them, and what follows
abbrev pub around_number : List ℕ → ℕ → List ℕ → List ℕ
around_number before n behind = before ++ (decimal n ++ behind)

-- how a restore goes; a rebuild with the number of its dump, and a reconstruct with how many rows it names
abbrev pub kind_words : Kind → List ℕ
kind_words by_halt_load = codes "HALTLOAD"
kind_words by_back_out = codes "BACKOUT"
kind_words by_roll_back = codes "ROLLBACK"
kind_words (by_rebuild d) = around_number (codes "REBUILD ") d []
kind_words (by_reconstruct d rows) = around_number (codes "RECONSTRUCT ") d (around_number (codes " ROWS ") (length rows) [])

-- whether a block is new, by its bytes before the change
abbrev pub change_word : Option BlockBytes → List ℕ
change_word None = codes " NEW"
change_word (Some before) = codes " CHANGED"

-- an entry in words
abbrev pub entry_words : Entry → List ℕ
entry_words (schema_part part parts bytes) = around_number (codes "SCHEMA ") part (around_number (codes " OF ") parts (around_number (codes " LENGTH ") (length bytes) []))
entry_words (image f b before after) = around_number (codes "IMAGE ") f (around_number (codes " ") b (change_word before))
entry_words (byte_range f b place bytes) = around_number (codes "RANGE ") f (around_number (codes " ") b (around_number (codes " AT ") place (around_number (codes " LENGTH ") (length bytes) [])))
entry_words (quiet_point n) = around_number (codes "QUIET ") n []
entry_words (control_point n next counts) = around_number (codes "CONTROL ") n (around_number (codes " NEXT ") next [])
entry_words (begin_restore n kind) = around_number (codes "BEGIN ") n (codes " " ++ kind_words kind)

-- the line of an entry in block i of audit file k
abbrev pub entry_line : ℕ → ℕ → Entry → List ℕ
entry_line k i e = around_number [] k (around_number (codes " ") i (codes " " ++ (entry_words e ++ (10 ∷ []))))
