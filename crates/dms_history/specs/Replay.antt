-- The changes carried out one after another.
use Rattle.std.specs.Prelude.{ℕ, suc, ◌<◌, ◌≡◌, ◌==◌, if◌then◌else◌, List, [], ◌∷◌, ◌++◌, length, take, drop, slice_index_or, Option, Some, None}
use Rattle.dms_history.specs.Events.{BlockBytes, AllBlocks, Event, change, quiet, control, begin}

-- a content with block b of file f as it is given, be it one that was there or a new one at the end
unfoldable pub with_block : AllBlocks → ℕ → ℕ → BlockBytes → AllBlocks
with_block content f b block = λ g. if g == f then take b (content f) ++ (block ∷ drop (suc b) (content f)) else content g

abbrev pub apply : Event → AllBlocks → AllBlocks
apply (change f b before after) content = with_block content f b after
apply (quiet n) content = content
apply (control n next counts described) content = content
apply (begin n how) content = content

-- the content after all events
abbrev pub replay : List Event → AllBlocks → AllBlocks
replay [] content = content
replay (e ∷ es) content = replay es (apply e content)

-- A change tells what stood in its file before it: no before-image where the block is new and goes to the end, else the block that was there.
abbrev pub TellsBefore : ℕ → Option BlockBytes → List BlockBytes → Type 0
TellsBefore b None blocks = b ≡ length blocks
TellsBefore b (Some old) blocks = (b < length blocks) × (old ≡ slice_index_or blocks b [])

-- Each change tells what stood before it, and each Control has the counts of its moment.
abbrev pub Chain : List Event → AllBlocks → Type 0
Chain [] content = Unit {0}
Chain (change f b before after ∷ es) content = TellsBefore b before (content f) × Chain es (with_block content f b after)
Chain (quiet n ∷ es) content = Chain es content
Chain (control n next counts described ∷ es) content = ((f : ℕ) → counts f ≡ length (content f)) × Chain es content
Chain (begin n how ∷ es) content = ⊥
