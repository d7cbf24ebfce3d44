-- Blocks and images of 1,024 bytes. Laws: what the entries tell over whole blocks has whole blocks, and so had the base.
use Rattle.std.specs.Prelude.{ℕ, ◌<◌, ◌≡◌, List, [], ◌∷◌, length, Option, Some, None}
use Rattle.dms_history.specs.Events.{BlockBytes, AllBlocks, Event, change, quiet, control, begin, block_in}
use Rattle.dms_history.specs.Replay.{Chain, replay}

-- each block has 1,024 bytes
abbrev pub AllSized : AllBlocks → Type 0
AllSized content = (f b : ℕ) → b < length (content f) → length (block_in content f b) ≡ 1024

abbrev pub IsSizedBefore : Option BlockBytes → Type 0
IsSizedBefore None = Unit {0}
IsSizedBefore (Some old) = length old ≡ 1024

-- both images of a change have 1,024 bytes
pub record IsSizedChange (before : Option BlockBytes) (after : BlockBytes) : Type 0 where
  pub was : IsSizedBefore before
  pub becomes : length after ≡ 1024

-- each image has 1,024 bytes
abbrev pub ImagesSized : List Event → Type 0
ImagesSized [] = Unit {0}
ImagesSized (change f b before after ∷ es) = IsSizedChange before after × ImagesSized es
ImagesSized (quiet n ∷ es) = ImagesSized es
ImagesSized (control n next counts described ∷ es) = ImagesSized es
ImagesSized (begin n how ∷ es) = ImagesSized es

abbrev pub SizedReplay : Type 0
SizedReplay = (entries : List Event) (base : AllBlocks) → Chain entries base → AllSized base → ImagesSized entries → AllSized (replay entries base)

abbrev pub SizedBase : Type 0
SizedBase = (entries : List Event) (base : AllBlocks) → Chain entries base → AllSized (replay entries base) → ImagesSized entries → AllSized base
