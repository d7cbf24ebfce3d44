-- The ordered lists of structures as they are seen through an overlay, each in its structure's file.
use Rattle.std.specs.Prelude.{ℕ, ◌+◌, ◌*◌, ◌≤◌, ◌≡◌, ◌&&◌, Bool, false, IsTrue, List, None, if◌then◌else◌, length, nat_le}
use Rattle.std.specs.declared.option.Option.{Option}
use Rattle.std.specs.declared.result.Result.TheVariants.{Ok, Err}
use Rattle.dms_block.specs.declared.block_fault.BlockFault.{BlockFault}
use Rattle.dms_block.specs.declared.blocks.Blocks.{Ghosts}
use Rattle.dms_block.specs.declared.overlay.Overlay.{Overlay}
use Rattle.dms_block.specs.Held.{HasCausesOr, Looks}
use Rattle.dms_block.specs.View.{overlay_content, seen_counts, under, overlay_changes}
use Rattle.dms_desc.specs.Files.{file_of}
use Rattle.dms_lists.specs.declared.form.ListForm.{ListForm}
use Rattle.dms_lists.specs.Forms.{kept_in}

-- the list of a file, where the content is told; a list has at most 1,048,576 blocks
abbrev pub list_told : Bool → ListForm → ℕ → List (List ℕ) → Option (List (List ℕ))
list_told told form width bs = if told && nat_le (length bs) 1048576 then kept_in form width bs else None

module _ {B : Type 0} {g : Ghosts B} where
  abbrev pub seen_list : Overlay B g → ℕ → ListForm → ℕ → Option (List (List ℕ))
  seen_list o n form width = list_told (under o).told form width (overlay_content o (file_of n))

  -- the blocks below are usable, and the file of the structure is theirs
  abbrev pub Usable : Overlay B g → ℕ → Type 0
  Usable o n = (under o).sound × IsTrue ((under o).owns (file_of n))

  -- the file of a structure is as it was
  abbrev pub FileStays : ℕ → Overlay B g → Overlay B g → Type 0
  FileStays n a b = (seen_counts b (file_of n) ≡ seen_counts a (file_of n)) × (IsTrue (under a).told → overlay_content b (file_of n) ≡ overlay_content a (file_of n))

-- Calls on the lists of these structures that didn't fail, with at most so many changes: the blocks below were only read, each change
-- wrote 22 blocks at most, and the files of all other structures are as they were.
pub record Calm {B : Type 0} {g : Ghosts B} (p : ℕ → Bool) (n : ℕ) (a b : Overlay B g) : Type 0 where
  pub told : (under b).told ≡ (under a).told
  pub faults : (under b).faults ≡ (under a).faults
  pub reads : ℕ
  pub looks : (under a).sound → Looks {T = Unit {0}} reads (Ok tt) (under a) (under b)
  pub more : length (overlay_changes b) ≤ length (overlay_changes a) + 22 * n
  pub same : g.same_blocks a.below b.below
  pub others : (m : ℕ) → p m ≡ false → FileStays m a b

-- Calls with at most so many changes, of which the last one failed: the blocks below were only read, and the fault is theirs, or was
-- found in a list.
pub record EndsInFault {B : Type 0} {g : Ghosts B} (e : BlockFault) (n : ℕ) (a b : Overlay B g) : Type 0 where
  pub reads : ℕ
  pub looks : (under a).sound → Looks {T = Unit {0}} reads (Err e) (under a) (under b)
  pub causes : (under a).sound → HasCausesOr {T = Unit {0}} (λ f k. Unit {0}) (Err e) (under a) (under b)
  pub more : length (overlay_changes b) ≤ length (overlay_changes a) + 22 * n
  pub same : g.same_blocks a.below b.below

-- the fault is that of the blocks below
abbrev pub FromBelow : {B : Type 0} {g : Ghosts B} → BlockFault → Overlay B g → Overlay B g → Type 0
FromBelow e a b = (under a).sound → HasCausesOr {T = Unit {0}} (λ f k. ⊥) (Err e) (under a) (under b)
