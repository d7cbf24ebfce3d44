-- What a call leaves that changes the list of one structure.
use Rattle.std.specs.Prelude.{ℕ, ◌≡◌, ◌≤◌, ◌⊎◌, ◌==◌, true, false, IsTrue, length, OnOk, Some}
use Rattle.std.specs.declared.result.Result.{Result}
use Rattle.dms_base.specs.declared.kind.ItemKind.{ItemKind}
use Rattle.std.specs.Prelude.{List}
use Rattle.dms_block.specs.declared.block_fault.BlockFault.{BlockFault}
use Rattle.dms_block.specs.declared.blocks.Blocks.{Ghosts}
use Rattle.dms_block.specs.declared.overlay.Overlay.{Overlay}
use Rattle.dms_block.specs.Faults.{Unbroken}
use Rattle.dms_block.specs.Held.{MakesNoPoint, Stays}
use Rattle.dms_block.specs.Content.{block_in}
use Rattle.dms_block.specs.View.{overlay_content, under}
use Rattle.dms_desc.specs.declared.record.Record.{Record}
use Rattle.dms_desc.specs.Shape.{Described, Shape}
use Rattle.dms_sets.specs.Sets.{kinds_over}
use Rattle.dms_reorg.specs.Filled.{HoldsEntries, MayFill}
use Rattle.dms_layout.specs.declared.slot.Slot.{Slot}
use Rattle.dms_layout.specs.declared.slot.SlotRead.TheVariants.{Used}
use Rattle.dms_slots.specs.Seen.{BadIn, blocks_of}
use Rattle.dms_slots.specs.SlotBlocks.{slot_at}
use Rattle.std.specs.declared.option.Option.{Option}
use Rattle.dms_chain.specs.Lists.{with_in}
use Rattle.dms_links.specs.Rows.{rec_opt}
use Rattle.dms_sets.specs.Changes.{entry_opt, HasRoom, IfListed, list_of_set, refuses}
use Rattle.dms_sets.specs.Keeping.{FileStays, seen_list}

-- The files of all other structures are as they were, and no point was made.
pub record FillsList {B : Type 0} {g : Ghosts B} {T : Type 0} (n : ℕ) (result : Result T BlockFault) (old new : Overlay B g) : Type 0 where
  pub passes : MakesNoPoint (under old) (under new)
  pub stays : Unbroken result (Stays (under old) (under new))
  pub others : OnOk result ((m : ℕ) → (m == n) ≡ false → FileStays m old new)
  pub same : g.same_blocks old.below new.below

-- all files are seen as before
pub record HandsDown {B : Type 0} {g : Ghosts B} {T : Type 0} (result : Result T BlockFault) (old new : Overlay B g) : Type 0 where
  pub passes : MakesNoPoint (under old) (under new)
  pub stays : Unbroken result (Stays (under old) (under new))
  pub seen : OnOk result ((m : ℕ) → FileStays m old new)
  pub same : g.same_blocks old.below new.below

-- the blocks below are as they were, or all that was written stands there
abbrev pub PassesDown : {B : Type 0} {g : Ghosts B} → Overlay B g → Overlay B g → Type 0
PassesDown a b = IsTrue (under a).told → ((under b).content ≡ (under a).content) ⊎ ((under b).content ≡ overlay_content b)

-- where the set's list is known and has room, this entry is put in, if there is one
abbrev pub PutsIn : {B : Type 0} {g : Ghosts B} → List ItemKind → Shape → Option (List ℕ) → Overlay B g → Overlay B g → Type 0
PutsIn kinds s entry a b = IfListed (list_of_set (seen_list a) kinds s) (λ xs. HasRoom xs → list_of_set (seen_list b) kinds s ≡ Some (with_in entry xs))

-- the entry in a set of the record in a slot of its data set's file
abbrev pub entry_at : {B : Type 0} {g : Ghosts B} → List ItemKind → Shape → Shape → ℕ → Overlay B g → Option (List ℕ)
entry_at kinds t s number o = entry_opt kinds s number (rec_opt (slot_at t (blocks_of t o) number))

-- where the set's list is known it refuses the record
abbrev pub RefusedIn : {B : Type 0} {g : Ghosts B} → List ItemKind → Shape → Record → Overlay B g → ℕ → ℕ → Type 0
RefusedIn kinds s rec o f b = IfListed (list_of_set (seen_list o) kinds s) (λ xs. refuses kinds s (Some rec) xs ≡ true)

-- where the set's list is known it refuses the record of this slot
abbrev pub RefusedAt : {B : Type 0} {g : Ghosts B} → List ItemKind → Shape → Shape → ℕ → Overlay B g → ℕ → ℕ → Type 0
RefusedAt kinds t s number o f b = IfListed (list_of_set (seen_list o) kinds s) (λ xs. (slot : Slot) × (slot_at t (blocks_of t o) number ≡ Used slot) × (refuses kinds s (Some slot.rec) xs ≡ true))

-- a block isn't one of the data set, or the set refuses the record of this slot
abbrev pub SlotDamage : {B : Type 0} {g : Ghosts B} → List ItemKind → Shape → Shape → ℕ → Overlay B g → ℕ → ℕ → Type 0
SlotDamage kinds t s number o f b = BadIn t o f b ⊎ RefusedAt kinds t s number o f b

-- where the content is told, the kinds are those of the data set's items, and the set may be filled
abbrev pub IfMayFill : {B : Type 0} {g : Ghosts B} → List ItemKind → Shape → Shape → Overlay B g → Type 0 → Type 0
IfMayFill kinds t s o P = IsTrue (under o).told → (desc : Described) → kinds ≡ kinds_over desc s → MayFill kinds t s (blocks_of t o) (blocks_of s o) → P

-- where the set may be filled, its file holds the entries of all records
abbrev pub FillsSet : {B : Type 0} {g : Ghosts B} → List ItemKind → Shape → Shape → Overlay B g → Overlay B g → Type 0
FillsSet kinds t s a b = IfMayFill kinds t s a (HoldsEntries kinds t s (blocks_of t a) (blocks_of s b))

-- A block isn't one of the data set. Or a block of a structure's file is none at all, where the set may be filled.
abbrev pub FillDamage : {B : Type 0} {g : Ghosts B} → List ItemKind → Shape → Shape → Overlay B g → ℕ → ℕ → Type 0
FillDamage kinds t s o f b = BadIn t o f b ⊎ IfMayFill kinds t s o (30000 ≤ f → length (block_in (under o).content f b) ≡ 1024 → ⊥)
