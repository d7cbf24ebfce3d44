-- Where a block differs from what it was.
use Rattle.std.specs.Prelude.{ℕ, ◌+◌, ◌-◌, ◌<◌, ◌≤◌, ◌≡◌, List, length, take, drop, slice_index_or}

-- the bytes before this place are the same
abbrev pub SameBelow : ℕ → List ℕ → List ℕ → Type 0
SameBelow n old new = (i : ℕ) → i < n → slice_index_or new i 0 ≡ slice_index_or old i 0

-- and so are those from this place on
abbrev pub SameFrom : ℕ → List ℕ → List ℕ → Type 0
SameFrom n old new = (i : ℕ) → n ≤ i → i < length old → slice_index_or new i 0 ≡ slice_index_or old i 0

-- another byte stands at this place
abbrev pub DiffersAt : ℕ → List ℕ → List ℕ → Type 0
DiffersAt i old new = slice_index_or new i 0 ≡ slice_index_or old i 0 → ⊥

-- These are the bytes of the block from the first place to the last one at which it differs.
pub record SpansDifference (old new : List ℕ) (place : ℕ) (bytes : List ℕ) : Type 0 where
  pub some : 1 ≤ length bytes
  pub within : place + length bytes ≤ length old
  pub are : bytes ≡ take (length bytes) (drop place new)
  pub first : DiffersAt place old new
  pub last : DiffersAt (place + length bytes - 1) old new
  pub below : SameBelow place old new
  pub above : SameFrom (place + length bytes) old new
