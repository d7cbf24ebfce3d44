-- The file of a data set as it is seen through an overlay.
use Rattle.std.specs.Prelude.{ℕ, ◌<◌, ◌≡◌, List}
use Rattle.dms_desc.specs.Shape.{Shape}
use Rattle.dms_block.specs.Content.{Content}
use Rattle.dms_block.specs.declared.blocks.Blocks.{Ghosts}
use Rattle.dms_block.specs.declared.overlay.Overlay.{Overlay}
use Rattle.dms_block.specs.View.{overlay_content, seen_counts, under}
use Rattle.dms_desc.specs.Files.{file_of}
use Rattle.dms_slots.specs.SlotBlocks.{slot_put, BadBlock}

module _ {B : Type 0} {g : Ghosts B} where
  -- its blocks
  abbrev pub blocks_of : Shape → Overlay B g → List (List ℕ)
  blocks_of s o = overlay_content o (file_of s.number)

  -- how many there are
  abbrev pub count_of : Shape → Overlay B g → ℕ
  count_of s o = seen_counts o (file_of s.number)

  -- a block that the file has isn't one of a data set
  abbrev pub BadIn : Shape → Overlay B g → ℕ → ℕ → Type 0
  BadIn s o f b = BadBlock (under o).told s (file_of s.number) (blocks_of s o) f b × (b < count_of s o)

  -- the same of this block alone
  abbrev pub BadAt : Shape → ℕ → Overlay B g → ℕ → ℕ → Type 0
  BadAt s at o f b = BadIn s o f b × (b ≡ at)

  -- all files, with these bytes in the place of the slot of a record
  abbrev pub with_slot : Shape → ℕ → List ℕ → Overlay B g → Content
  with_slot s number bytes o = slot_put s number bytes (overlay_content o)
