-- Which blocks may be found damaged while a file is widened in its place.
use Rattle.std.specs.Prelude.{ℕ, ◌*◌, ◌<◌, ◌≤◌, ◌≡◌, ◌⊎◌, IsTrue, length}
use Rattle.std.specs.declared.result.Result.{Result}
use Rattle.std.specs.declared.result.Result.TheVariants.{Ok, Err}
use Rattle.dms_block.specs.declared.block_fault.BlockFault.{BlockFault}
use Rattle.dms_block.specs.declared.block_fault.BlockFault.TheVariants.{Disk, Memory, Full, Damaged, Say}
use Rattle.dms_block.specs.declared.blocks.Blocks.{Ghosts}
use Rattle.dms_block.specs.declared.overlay.Overlay.{Overlay}
use Rattle.dms_block.specs.Content.{block_in}
use Rattle.dms_block.specs.Counts.{Raised}
use Rattle.dms_block.specs.Held.{Held}
use Rattle.dms_desc.specs.Files.{file_of}
use Rattle.dms_desc.specs.Shape.{Shape}
use Rattle.dms_block.specs.View.{under}
use Rattle.dms_slots.specs.Seen.{BadIn, blocks_of}
use Rattle.dms_slots.specs.SlotBlocks.{per_block}

module _ {B : Type 0} {g : Ghosts B} where
  -- a block with a slot up to the last one isn't one of the data set
  abbrev pub BadWithin : Shape → ℕ → Overlay B g → ℕ → ℕ → Type 0
  BadWithin s last o f b = BadIn s o f b × (b * per_block s.items < last)

  -- the same, and no block behind this one
  abbrev pub BadBefore : Shape → ℕ → ℕ → Overlay B g → ℕ → ℕ → Type 0
  BadBefore s last block o f b = BadWithin s last o f b × (b ≤ block)

-- the file is the object's, and where the content is told this block of it isn't 1,024 bytes long
abbrev pub IsNoBlock : Held → ℕ → ℕ → Type 0
IsNoBlock h f b = IsTrue (h.owns f) × (IsTrue h.told → length (block_in h.content f b) ≡ 1024 → ⊥)

-- A fault of a call that changes blocks more than once is counted. A damaged block is one of these, counted or found here.
abbrev pub CausedSince : (ℕ → ℕ → Type 0) → BlockFault → Held → Held → Type 0
CausedSince P Disk a b = Raised Disk a.faults b.faults
CausedSince P Memory a b = Raised Memory a.faults b.faults
CausedSince P (Full f) a b = Raised (Full f) a.faults b.faults
CausedSince P (Damaged f n) a b = (Raised (Damaged f n) a.faults b.faults ⊎ (b.faults ≡ a.faults)) × P f n
CausedSince P Say a b = ⊥

-- each fault is counted, and nothing else is
abbrev pub HasCausesSince : {T : Type 0} → (ℕ → ℕ → Type 0) → Result T BlockFault → Held → Held → Type 0
HasCausesSince P (Ok x) a b = b.faults ≡ a.faults
HasCausesSince P (Err e) a b = CausedSince P e a b

module _ {B : Type 0} {g : Ghosts B} where
  -- a block isn't one of the data set, or is none at all
  abbrev pub IsDamaged : Shape → Overlay B g → ℕ → ℕ → Type 0
  IsDamaged s o f b = BadIn s o f b ⊎ IsNoBlock (under o) f b

  -- the same, or the file has more than 1,048,576 blocks
  abbrev pub BadFile : Shape → Overlay B g → ℕ → ℕ → Type 0
  BadFile s o f b = IsDamaged s o f b ⊎ ((f ≡ file_of s.number) × (IsTrue (under o).told → 1048576 < length (blocks_of s o)))
