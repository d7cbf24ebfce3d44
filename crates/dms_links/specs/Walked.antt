-- What a walk over the slots of data sets asks, and what it may find damaged.
use Rattle.std.specs.Prelude.{ℕ, ◌≤◌, ◌≡◌, Some, length, slice_get, true}
use Rattle.dms_block.specs.declared.blocks.Blocks.{Ghosts}
use Rattle.dms_block.specs.declared.overlay.Overlay.{Overlay}
use Rattle.dms_desc.specs.Shape.{Shape, Described}
use Rattle.dms_layout.specs.Slots.{slot_width}
use Rattle.dms_slots.specs.Seen.{BadIn}
use Rattle.dms_links.specs.Linking.{is_walked}

-- a structure has at most 60 items, and a block holds a slot of it
pub record HasSlots (s : Shape) : Type 0 where
  pub few : length s.items ≤ 60
  pub fits : slot_width s.items ≤ 1024

abbrev pub HaveSlots : Described → Type 0
HaveSlots desc = (k : ℕ) (s : Shape) → slice_get desc.structures k ≡ Some s → HasSlots s

-- a block of a data set that is walked isn't one of slots
abbrev pub BadSet : {B : Type 0} {g : Ghosts B} → ℕ → Shape → Overlay B g → ℕ → ℕ → Type 0
BadSet to s o f b = (is_walked to s ≡ true) × BadIn s o f b

abbrev pub BadWalk : {B : Type 0} {g : Ghosts B} → Described → ℕ → Overlay B g → ℕ → ℕ → Type 0
BadWalk desc to o f b = (k : ℕ) × (s : Shape) × (slice_get desc.structures k ≡ Some s) × BadSet to s o f b
