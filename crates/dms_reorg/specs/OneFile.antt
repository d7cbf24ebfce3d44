-- What a call leaves that changes the blocks of one file alone.
use Rattle.std.specs.Prelude.{ℕ, ◌≡◌, ◌≢◌, List, [], IsTrue, OnOk}
use Rattle.dms_base.specs.declared.value.Value.{Value}
use Rattle.dms_desc.specs.Shape.{Shape}
use Rattle.dms_slots.specs.Seen.{blocks_of}
use Rattle.dms_reorg.specs.InPlace.{IsMade}
use Rattle.dms_reorg.specs.Widened.{HasNoneBehind, IsWidenedFile}
use Rattle.std.specs.declared.result.Result.{Result}
use Rattle.dms_block.specs.declared.block_fault.BlockFault.{BlockFault}
use Rattle.dms_block.specs.declared.blocks.Blocks.{Ghosts}
use Rattle.dms_block.specs.declared.overlay.Overlay.{Overlay}
use Rattle.dms_block.specs.Faults.{Unbroken}
use Rattle.dms_block.specs.Held.{MakesNoPoint, Stays, Used}
use Rattle.dms_block.specs.View.{overlay_changes, overlay_content, seen_counts, under}

-- A call changes blocks of this file alone, at most m of them, and reads at most n. All that it wrote was handed down.
pub record ChangesFile {B : Type 0} {g : Ghosts B} {T : Type 0} (f n m : ℕ) (result : Result T BlockFault) (old new : Overlay B g) : Type 0 where
  pub written : overlay_changes new ≡ []
  pub passes : MakesNoPoint (under old) (under new)
  pub stays : Unbroken result (Stays (under old) (under new))
  pub uses : Used n m (under old).uses (under new).uses
  pub counts : OnOk result ((other : ℕ) → other ≢ f → seen_counts new other ≡ seen_counts old other)
  pub others : OnOk result (IsTrue (under old).told → (other : ℕ) → other ≢ f → overlay_content new other ≡ overlay_content old other)
  pub same : g.same_blocks old.below new.below

-- where the content is told, and no slot stands behind POPULATION, the file is that of the data set with further items
abbrev pub WidensSeen : {B : Type 0} {g : Ghosts B} → Shape → Shape → List Value → Overlay B g → Overlay B g → Type 0
WidensSeen s t more a b = IsTrue (under a).told → HasNoneBehind s (blocks_of s a) → IsWidenedFile s t more (blocks_of s a) (blocks_of s b)

-- where the content is told, so many blocks of the file are made
abbrev pub MakesBlocks : {B : Type 0} {g : Ghosts B} → Shape → Shape → List Value → ℕ → Overlay B g → Overlay B g → Type 0
MakesBlocks s t more count a b = IsTrue (under a).told → IsMade s t more (blocks_of s a) 0 count (blocks_of s b)
