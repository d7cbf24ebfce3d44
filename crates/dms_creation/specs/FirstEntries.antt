-- The entries of a new database: its description in parts, and the control point 0.
use Rattle.std.specs.Prelude.{ℕ, zero, suc, ◌+◌, ◌/◌, List, [], ◌∷◌, ◌++◌, length}
use Rattle.dms_desc.specs.Shape.{Described}
use Rattle.dms_desc_bytes.specs.Spelling.{spelling}
use Rattle.dms_audrec.specs.Bodies.{bodies}
use Rattle.dms_audrec.specs.Reading.{counts_at}
use Rattle.dms_history.specs.declared.event.FileCount.{FileCount}
use Rattle.dms_history.specs.Entries.{Entry, control_point}
use Rattle.dms_history.specs.Schemas.{schema_entries}

-- the whole Schema of a description, and directly behind it the control point 0 with these counts; the next number is 1
abbrev pub schema_control : List ℕ → List ℕ → List Entry
schema_control description counts = schema_entries (bodies description) ++ control_point 0 1 (counts_at (length counts / 8) counts) ∷ []

-- no blocks in n structure files from the one of structure k on
abbrev pub zero_counts : ℕ → ℕ → List FileCount
zero_counts zero k = []
zero_counts (suc n) k = (record { file = 30000 + k; blocks = 0 }) ∷ zero_counts n (k + 1)

-- the control point 0 of so many structures without blocks; the next number is 1
abbrev pub first_control : ℕ → Entry
first_control n = control_point 0 1 (zero_counts n 1)

-- the whole Schema, and directly behind it the control point
unfoldable pub first_entries : Described → List Entry
first_entries d = schema_entries (bodies (spelling d)) ++ first_control (length d.structures) ∷ []
