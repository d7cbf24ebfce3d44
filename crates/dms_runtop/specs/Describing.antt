-- The description that a database is opened under.
use Rattle.std.specs.Prelude.{ℕ, ◌≡◌, ◌⊎◌, List}
use Rattle.dms_desc.specs.Shape.{Described}
use Rattle.dms_desc_bytes.specs.Spelling.{spelling}
use Rattle.dms_desc_bytes.specs.WellFormed.{IsWellFormed}

-- A description that these bytes of a Schema spell, or any one where they spell none.
abbrev pub IsUnderSchema : List ℕ → Described → Type 0
IsUnderSchema schema desc = (spelling desc ≡ schema) ⊎ ((d : Described) → IsWellFormed d → spelling d ≡ schema → ⊥)
