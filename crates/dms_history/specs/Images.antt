-- The images of one block in a list of events.
use Rattle.std.specs.Prelude.{ℕ, ◌==◌, ◌&&◌, if◌then◌else◌, Bool, List, [], ◌∷◌, Option, Some, None}
use Rattle.dms_history.specs.Events.{BlockBytes, Stored, Event, change, quiet, control, begin}

-- (f, b) is the block (g, k)
abbrev pub is_at : ℕ → ℕ → ℕ → ℕ → Bool
is_at f b g k = (g == f) && (k == b)

abbrev pub or_else : {A : Type 0} → Option A → Option A → Option A
or_else None y = y
or_else (Some x) y = Some x

-- the last after-image of block b of file f
abbrev pub last_after : ℕ → ℕ → List Event → Option BlockBytes
last_after f b [] = None
last_after f b (change g k before after ∷ es) = or_else (last_after f b es) (if is_at f b g k then Some after else None)
last_after f b (quiet n ∷ es) = last_after f b es
last_after f b (control n next counts described ∷ es) = last_after f b es
last_after f b (begin n how ∷ es) = last_after f b es

-- the before-image of the first change of block b of file f: none where that change made the block new
abbrev pub first_before : ℕ → ℕ → List Event → Option (Option BlockBytes)
first_before f b [] = None
first_before f b (change g k before after ∷ es) = if is_at f b g k then Some before else first_before f b es
first_before f b (quiet n ∷ es) = first_before f b es
first_before f b (control n next counts described ∷ es) = first_before f b es
first_before f b (begin n how ∷ es) = first_before f b es

abbrev pub else_stored : Option (Option BlockBytes) → BlockBytes → BlockBytes
else_stored None block = block
else_stored (Some None) block = block
else_stored (Some (Some old)) block = old

-- the last after-image where there is one, else the before-image of the first change where it has one, else what is stored
abbrev pub value : Option BlockBytes → Option (Option BlockBytes) → BlockBytes → BlockBytes
value (Some x) first block = x
value None first block = else_stored first block

-- a block between two lists of events: redone from those that came earlier, else undone from those that came later, else as stored
unfoldable pub choice : List Event → List Event → Stored → Stored
choice earlier later stored f b = value (last_after f b earlier) (first_before f b later) (stored f b)
