-- The description file, file 1: the description's gate, the database's gate, the length of the description, its bytes.
use Rattle.std.specs.Prelude.{◌≡◌, ◌≤◌, ℕ, List, ◌∷◌, ◌++◌, length, Some, None}
use Rattle.std.specs.Int.{w32, to_be_bytes}
use Rattle.std.specs.declared.option.Option.{Option}
use Rattle.dms_desc.specs.declared.description.Description.{Description}
use Rattle.dms_desc.specs.Shape.{Described, as_described}
use Rattle.dms_desc_bytes.specs.Spelling.{spelling}
use Rattle.dms_desc_bytes.specs.WellFormed.{IsWellFormed}

-- what the description file holds with these two gates
unfoldable pub description_file : ℕ → ℕ → List ℕ → List ℕ
description_file gate database bytes = gate ∷ database ∷ to_be_bytes w32 (length bytes) ++ bytes

-- a description that was just compiled: its gate is open, and that of a database isn't
abbrev pub sealed_file : Described → List ℕ
sealed_file d = description_file 1 0 (spelling d)

-- A file is this description, sealed: its gate is open, and the file ends where the length says. The database's gate may
-- be any byte. No description has more than 65,535 bytes.
pub record IsSealed (file : List ℕ) (d : Described) : Type 0 where
  pub database : ℕ
  pub well_formed : IsWellFormed d
  pub few : length (spelling d) ≤ 65535
  pub is : file ≡ description_file 1 database (spelling d)

-- a file is no sealed description
abbrev pub IsUnsealed : List ℕ → Type 0
IsUnsealed file = (d : Described) → IsSealed file d → ⊥

-- the sealed description that a file is, or none where it is no sealed description
abbrev pub Holds : List ℕ → Option Description → Type 0
Holds file None = IsUnsealed file
Holds file (Some d) = IsSealed file (as_described d)
