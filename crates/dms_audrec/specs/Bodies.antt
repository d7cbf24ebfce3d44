-- A description in parts of 4,000 bytes.
use Rattle.std.specs.Prelude.{ℕ, zero, suc, ◌+◌, ◌/◌, List, [], ◌∷◌, length, take, drop}

-- n bodies of 4,000 bytes, the last one what is left
abbrev pub bodies_of : ℕ → List ℕ → List (List ℕ)
bodies_of zero bytes = []
bodies_of (suc n) bytes = take 4000 bytes ∷ bodies_of n (drop 4000 bytes)

-- the parts of so many bytes
abbrev pub part_count : ℕ → ℕ
part_count size = (size + 3999) / 4000

-- the bodies of a description's parts
unfoldable pub bodies : List ℕ → List (List ℕ)
bodies bytes = bodies_of (part_count (length bytes)) bytes
