-- Bytes that are held, and those that the source has left behind them.
use Rattle.std.specs.Prelude.{◌≡◌, ℕ, List, [], Some, slice_get, drop}
use Rattle.std.specs.declared.option.Option.{Option}
use Rattle.std.specs.Io.KnownBytes.{prepend_known}

-- what is held, and then what the source has left, where it tells that
abbrev pub Remains : List ℕ → Option (List ℕ) → List ℕ → Type 0
Remains held left all = prepend_known held left ≡ Some all

-- where what remains is told, the first byte of it was taken, if there is one
abbrev pub Feeds : List ℕ → Option (List ℕ) → List ℕ → Option (List ℕ) → Option ℕ → Type 0
Feeds held left held' left' byte = (all : List ℕ) → Remains held left all → (byte ≡ slice_get all 0) × Remains held' left' (drop 1 all)

-- the same remains, and more is held now, or nothing only at the end
abbrev pub TakesMore : List ℕ → Option (List ℕ) → List ℕ → Option (List ℕ) → Type 0
TakesMore held left held' left' = (all : List ℕ) → Remains held left all → Remains held' left' all × (held' ≡ [] → all ≡ [])

-- taking failed: nothing is held, and what remained is still left
abbrev pub TakingFails : List ℕ → Option (List ℕ) → List ℕ → Option (List ℕ) → Type 0
TakingFails held left held' left' = (held' ≡ []) × ((all : List ℕ) → Remains held left all → left' ≡ Some all)
