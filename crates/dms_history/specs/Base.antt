-- A base: the content from which the entries tell how all blocks came.
use Rattle.std.specs.Prelude.{ℕ, ◌<◌, ◌≡◌, if◌then◌else◌, List, [], ◌∷◌, ◌++◌, length, Option, Some, None}
use Rattle.dms_history.specs.Events.{BlockBytes, AllBlocks, Stored, Counts, Event, change, quiet, control, begin, block_in}
use Rattle.dms_history.specs.Replay.{Chain, replay}
use Rattle.dms_history.specs.Lists.{after_last}
use Rattle.dms_history.specs.Places.{is_control}
use Rattle.dms_history.specs.Images.{last_after, choice}
use Rattle.dms_history.specs.Pick.{content_of}

-- the entries before the first Control
abbrev pub opening : List Event → List Event
opening [] = []
opening (e ∷ es) = if is_control e then [] else e ∷ opening es

-- the entries from the first Control on
abbrev pub from_control : List Event → List Event
from_control [] = []
from_control (e ∷ es) = if is_control e then e ∷ es else from_control es

-- the counts of the first Control
abbrev pub first_counts : List Event → Counts
first_counts [] = λ _. 0
first_counts (change f b before after ∷ es) = first_counts es
first_counts (quiet n ∷ es) = first_counts es
first_counts (control n next counts described ∷ es) = counts
first_counts (begin n how ∷ es) = first_counts es

-- The entries tell how all blocks came from a base, and each block without a change after the last Control counts as it came.
pub record Sound (entries : List Event) (base : AllBlocks) (here : Stored) : Type 0 where
  pub chain : Chain entries base
  pub stands : (f b : ℕ) → b < length (replay entries base f) → last_after f b (after_last is_control entries) ≡ None → here f b ≡ block_in (replay entries base) f b

-- The changes before the first Control lead to the base.
pub record OpenedFrom (front : List Event) (base : AllBlocks) : Type 0 where
  pub leads : (f b : ℕ) (x : BlockBytes) → last_after f b front ≡ Some x → (b < length (base f)) × (block_in base f b ≡ x)
  pub linked : (xs ys : List Event) (f b : ℕ) (before : Option BlockBytes) (after old : BlockBytes)
      → front ≡ xs ++ change f b before after ∷ ys → last_after f b xs ≡ Some old → before ≡ Some old

-- the content at the first live Control: of each block the before-image of its first change from there on, where it has one, else what counts now
unfoldable pub base_of : List Event → Stored → AllBlocks
base_of live here = content_of (first_counts live) (choice [] (from_control live) here)
