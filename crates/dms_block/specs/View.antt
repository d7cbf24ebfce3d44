-- What is seen through an overlay, and what calls over it leave.
use Rattle.std.specs.Prelude.{ℕ, ◌≡◌, ◌≤◌, ◌+◌, List, length}
use Rattle.std.specs.declared.result.Result.{Result}
use Rattle.dms_block.specs.declared.block_fault.BlockFault.{BlockFault}
use Rattle.dms_block.specs.declared.blocks.Blocks.{Ghosts}
use Rattle.dms_block.specs.declared.change.Change.{Change}
use Rattle.dms_block.specs.declared.overlay.Overlay.{Overlay}
use Rattle.dms_block.specs.Content.{Content, apply_changes, counts_after}
use Rattle.dms_block.specs.Held.{Held, Looks}

module _ {B : Type 0} {g : Ghosts B} where
  -- what stands below
  abbrev pub under : Overlay B g → Held
  under o = g.held o.below

  -- what is written
  abbrev pub overlay_changes : Overlay B g → List Change
  overlay_changes o = o.changes.items.items

  -- the blocks that are seen, and how many there are
  abbrev pub overlay_content : Overlay B g → Content
  overlay_content o = apply_changes (overlay_changes o) (under o).content

  abbrev pub seen_counts : Overlay B g → ℕ → ℕ
  seen_counts o = counts_after (overlay_changes o) (under o).counts

-- a call reads through an overlay, at most n blocks
pub record ReadsOverlay {B : Type 0} {g : Ghosts B} {T : Type 0} (n : ℕ) (result : Result T BlockFault) (old new : Overlay B g) : Type 0 where
  pub written_still : overlay_changes new ≡ overlay_changes old
  pub looks : Looks n result (under old) (under new)
  pub same : g.same_blocks old.below new.below

-- a call writes into an overlay, at most m blocks, and reads at most n
pub record WritesOverlay {B : Type 0} {g : Ghosts B} {T : Type 0} (n m : ℕ) (result : Result T BlockFault) (old new : Overlay B g) : Type 0 where
  pub looks : Looks n result (under old) (under new)
  pub more : length (overlay_changes new) ≤ length (overlay_changes old) + m
  pub same : g.same_blocks old.below new.below
