-- Text that was printed, where it is told.
use Rattle.std.specs.Prelude.{ℕ, ◌≡◌, ◌++◌, List, take, Some}
use Rattle.std.specs.declared.option.Option.{Option}

-- told text grew by these bytes
abbrev pub Prints : Option (List ℕ) → Option (List ℕ) → List ℕ → Type 0
Prints old new bytes = (t : List ℕ) → old ≡ Some t → new ≡ Some (t ++ bytes)

-- told text grew by a prefix of these bytes
abbrev pub PrintsPrefix : Option (List ℕ) → Option (List ℕ) → List ℕ → Type 0
PrintsPrefix old new bytes = (t : List ℕ) → old ≡ Some t → (n : ℕ) × (new ≡ Some (t ++ take n bytes))
