-- The gate of a copy's database is opened behind its first Control.
use Rattle.std.specs.Prelude.{ℕ, ◌≡◌, ◌⊎◌, Bool, if◌then◌else◌, IsTrue, List, [], ◌∷◌, ◌++◌}
use Rattle.dms_site.specs.Files.{Files, Left, Torn, overlay_bytes}
use Rattle.dms_remote.specs.Copy.{IsCopyOf}

-- the description file behind that
abbrev pub gated : Bool → List ℕ → List ℕ
gated opens head = if opens then overlay_bytes 1 (1 ∷ []) head else head

-- what a stop leaves of it: nothing but the gate may be another
abbrev pub MayBeGated : Bool → List ℕ → List ℕ → Type 0
MayBeGated opens old new = (new ≡ old) ⊎ (IsTrue opens × Torn 1 1 old new)

-- A copy whose description file is this one, or another that a stop may leave of it.
pub record IsGatedCopy (total tag : ℕ) (opens : Bool) (head : List ℕ) (blocks : List (List ℕ)) (files : Files) : Type 0 where
  pub gate : MayBeGated opens head (files 1)
  pub is : IsCopyOf total tag (files 1) blocks files

-- what a stop leaves while the gate is opened
abbrev pub GatesCopy : ℕ → ℕ → Bool → List ℕ → List (List ℕ) → Left → Left → Type 0
GatesCopy total tag opens head blocks old new = IsGatedCopy total tag opens head blocks new.files

-- what a stop leaves while the next block is sealed: the copy without it, or with it, and then with its gate
abbrev pub TurnsCopy : ℕ → ℕ → Bool → List ℕ → List (List ℕ) → List ℕ → Left → Left → Type 0
TurnsCopy total tag opens head blocks block old new = IsCopyOf total tag head blocks new.files ⊎ IsGatedCopy total tag opens head (blocks ++ block ∷ []) new.files
