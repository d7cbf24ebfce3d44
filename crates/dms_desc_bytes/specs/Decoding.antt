-- What bytes are as a description.
use Rattle.std.specs.Prelude.{ℕ, ◌≡◌, List, [], ◌∷◌, Some, None, if◌then◌else◌}
use Rattle.std.specs.declared.option.Option.{Option}
use Rattle.std.specs.Str.{bytes_eq}
use Rattle.dms_desc.specs.declared.description.Description.{Description}
use Rattle.dms_desc.specs.Shape.{Shape, Described, as_described}
use Rattle.dms_desc_bytes.specs.Spelling.{spelling}
use Rattle.dms_desc_bytes.specs.WellFormed.{IsWellFormed}

-- the well-formed description that is spelled so, or nothing where none is
abbrev pub Decodes : List ℕ → Option Description → Type 0
Decodes bytes None = (d : Described) → IsWellFormed d → spelling d ≡ bytes → ⊥
Decodes bytes (Some d) = IsWellFormed (as_described d) × (spelling (as_described d) ≡ bytes)

-- the number of the first structure with this name
unfoldable pub number_of : List ℕ → List Shape → Option ℕ
number_of name [] = None
number_of name (s ∷ ss) = if bytes_eq s.name name then Some s.number else number_of name ss
