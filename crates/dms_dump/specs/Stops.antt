-- What a stop leaves of the file of a dump while it is written.
use Rattle.std.specs.Prelude.{ℕ, ◌<◌, ◌≤◌, ◌≡◌, ◌≢◌, ◌⊎◌, List, length, slice_index}
use Rattle.dms_site.specs.Files.{Files, Left}

-- the file has at most one byte, or its gate isn't 1
abbrev pub IsShut : List ℕ → Type 0
IsShut file = (length file ≤ 1) ⊎ (slice_index file 0 ≢ 1)

-- the file is as it was, or shut, or exactly the one that is made
abbrev pub BecomesDump : List ℕ → List ℕ → List ℕ → Type 0
BecomesDump made old new = (new ≡ old) ⊎ (IsShut new ⊎ (new ≡ made))

-- nothing before the gate's byte changes: the first byte stays, and the file gets no shorter
pub record KeepsGate (old new : List ℕ) : Type 0 where
  pub no_shorter : length old ≤ length new
  pub gate : 0 < length old → slice_index new 0 ≡ slice_index old 0

-- the file became shut
abbrev pub Shuts : List ℕ → List ℕ → Type 0
Shuts old new = IsShut new

-- A stop leaves the file shut, or exactly the one that is made, and all other files as these, and no other text.
pub record LeavesDump (f : ℕ) (made : List ℕ) (files : Files) (said : List ℕ) (x : Left) : Type 0 where
  pub here : IsShut (x.files f) ⊎ (x.files f ≡ made)
  pub others : (g : ℕ) → g ≢ f → x.files g ≡ files g
  pub text : x.said ≡ said
