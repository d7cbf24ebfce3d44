-- The words of the calls that store one record: where it is to stand, and what they leave where a database is told.
use Rattle.std.specs.Prelude.{◌≡◌, ◌≢◌, ◌≤◌, ◌+◌, ◌*◌, ℕ, true, IsTrue, Some, None, length}
use Rattle.std.specs.declared.option.Option.{Option}
use Rattle.std.specs.declared.result.Result.{Result}
use Rattle.dms_block.specs.declared.block_fault.BlockFault.{BlockFault}
use Rattle.dms_block.specs.declared.blocks.Blocks.{Ghosts}
use Rattle.dms_block.specs.declared.overlay.Overlay.{Overlay}
use Rattle.dms_block.specs.Held.{HasCausesOr}
use Rattle.dms_block.specs.View.{overlay_content, under}
use Rattle.dms_desc.specs.Lookups.{structure_of}
use Rattle.dms_desc.specs.Shape.{Shape, Described, as_described, shape_of}
use Rattle.dms_desc.specs.declared.record.Record.{Record}
use Rattle.dms_layout.specs.declared.slot.Slot.{Slot}
use Rattle.dms_layout.specs.declared.slot.SlotRead.TheVariants.{Bad}
use Rattle.dms_desc.specs.Files.{file_of}
use Rattle.dms_spelling.specs.Staying.{TakenStay}
use Rattle.dms_store.specs.Taken.{IfStoredAs, StoresNext}
use Rattle.dms_model.specs.Db.{Db}
use Rattle.dms_model.specs.Fitting.{RecordFits}
use Rattle.dms_model.specs.Stores.{with_links_of}
use Rattle.dms_model.specs.Valid.{is_data_set}
use Rattle.dms_model.specs.declared.put.Put.{Put}
use Rattle.dms_slots.specs.Seen.{count_of}
use Rattle.dms_slots.specs.SlotBlocks.{block_of, slot_at, slot_opt}
use Rattle.dms_links.specs.Stepping.{AreSlotFiles}
use Rattle.dms_model.specs.Changing.{storing_count}
use Rattle.dms_sets.specs.Keeping.{FileStays}
use Rattle.dms_spelling.specs.Grown.{IsNoList}
use Rattle.dms_store.specs.Lifted.{IsUsable}
use Rattle.dms_store.specs.Owning.{IfOwned}
use Rattle.dms_store.specs.PuttingLists.{ListsLeft, moves_of}
use Rattle.std.specs.FinMap.{get}
use Rattle.dms_store.specs.Putting.{AnswersOver}
use Rattle.dms_store.specs.PuttingEnters.{FindsSlot, IfStored, IsEntered, IsJudged, IsPlaced, IsUncounted, OwnerStands}
use Rattle.dms_links.specs.Rows.{rec_opt}
use Rattle.dms_spelling.specs.Spelled.{database_in}
use Rattle.dms_store.specs.declared.address.Address.{Address}

-- the description and the data set, as definitions speak of them
abbrev pub desc_at : Address → Described
desc_at at = as_described at.desc.now

abbrev pub shape_at : Address → Shape
shape_at at = shape_of at.set.now

-- The store may be used, the structure is one of its data sets, a record of it may have the number, and the number's block stands or is
-- the next one.
pub record MayWrite {B : Type 0} {g : Ghosts B} (at : Address) (a : Overlay B g) : Type 0 where
  pub usable : IsUsable (desc_at at) a
  pub there : structure_of (desc_at at) at.set.now.number ≡ Some (shape_at at)
  pub set : is_data_set (Some (shape_at at)) ≡ true
  pub low : 1 ≤ at.number
  pub most : at.number ≤ at.set.now.population
  pub next : block_of at.set.now.items at.number ≤ count_of (shape_at at) a

-- a record fits the data set
abbrev pub FitsAt : Address → Record → Type 0
FitsAt at rec = RecordFits (desc_at at) at.set.now.number rec

-- How many blocks lists take: 44 for each structure, and 22 for each of two changes that move an entry of a record which is replaced
abbrev pub list_blocks : Address → Option Record → Db → ℕ
list_blocks at old db = 44 * length at.desc.now.structures + 22 * moves_of (desc_at at) at.set.now.number at.number old db

-- ---- where a database is told

module _ {B : Type 0} {g : Ghosts B} where
  abbrev pub IfSpelt : Described → Overlay B g → (Db → Type 0) → Type 0
  IfSpelt desc a P = (db : Db) → IsTrue (under a).told → database_in desc (under a).content ≡ Some db → P db

  -- and this slot stands under the number
  abbrev pub IfFound : Address → Option Slot → Overlay B g → (Db → Type 0) → Type 0
  IfFound at o a P = (db : Db) → FindsSlot (desc_at at) db (shape_at at) at.number o a → P db

  -- and this one is what is to be written for a record, in place of an old one
  abbrev pub IfPlaced : Address → Option Record → Slot → Overlay B g → (Db → Option Slot → Record → Type 0) → Type 0
  IfPlaced at old slot a P = (db : Db) (o : Option Slot) (rec : Record) → IsPlaced (desc_at at) db (shape_at at) at.number o rec old slot a → P db o rec

  -- and this record stands under the number
  abbrev pub IfStands : Address → Option Record → Overlay B g → (Db → Type 0) → Type 0
  IfStands at old a P = (db : Db) → IsTrue (under a).told → database_in (desc_at at) (under a).content ≡ Some db → get db.records (at.set.now.number, at.number) ≡ old → P db

  -- ---- how many blocks are written

  abbrev pub FewLists : Address → Option Record → Overlay B g → ℕ → Type 0
  FewLists at old a n = IfStands at old a (λ db. n ≤ list_blocks at old db)

  -- and so many slots are written beside them
  abbrev pub FewPlaced : Address → Option Record → Slot → ℕ → Overlay B g → ℕ → Type 0
  FewPlaced at old slot k a n = IfPlaced at old slot a (λ db o rec. n ≤ list_blocks at old db + k)

  abbrev pub FewFound : Address → Option Slot → Overlay B g → ℕ → Type 0
  FewFound at o a n = IfFound at o a (λ db. n ≤ list_blocks at (rec_opt (slot_opt o)) db + 2)

  -- 64 for each structure, for the record and for each entry of it
  abbrev pub FewStored : Described → ℕ → Option ℕ → Overlay B g → ℕ → Type 0
  FewStored desc set number a n = IfSpelt desc a (λ db. n ≤ 64 * length desc.structures * storing_count desc set number db)

  -- ---- what is left

  -- the files of data sets, and of numbers that no structure has, stay
  abbrev pub ListsStay : Described → Overlay B g → Overlay B g → Type 0
  ListsStay desc a b = (k : ℕ) → IsNoList desc k → FileStays k a b

  -- the lists are those of the database with the record, or a structure refuses it
  abbrev pub LeavesLists : Address → Record → Overlay B g → Overlay B g → Option ℕ → Db → Type 0
  LeavesLists at new a b answer db = ListsLeft (desc_at at) db at.set.now.number at.number new (overlay_content a) (overlay_content b) answer

  -- the fault is that of the blocks below
  abbrev pub FaultsBelow : {T : Type 0} → Result T BlockFault → Overlay B g → Overlay B g → Type 0
  FaultsBelow result a b = HasCausesOr (λ f k. ⊥) result (under a) (under b)

  -- where a record that has an owner is stored, the files of data sets are blocks of slots
  abbrev pub LeavesSlots : Address → Overlay B g → Put → Type 0
  LeavesSlots at b p = IfOwned at.set.now.owner (IfStored p (AreSlotFiles (desc_at at) (overlay_content b)))

  -- where the owner stands, the record stands under its number and its owner doesn't count it yet, or a set refuses it
  abbrev pub LeavesUncounted : Address → Record → Overlay B g → Put → Db → Option Slot → Record → Type 0
  LeavesUncounted at made b p db o rec = OwnerStands db (shape_at at) o rec → IsUncounted (desc_at at) db at.set.now.number at.number made (overlay_content b) p

  -- and its owner counts it
  abbrev pub LeavesEntered : Address → Record → Overlay B g → Put → Db → Option Slot → Record → Type 0
  LeavesEntered at made b p db o rec = OwnerStands db (shape_at at) o rec → IsEntered (desc_at at) db at.set.now.number at.number made (overlay_content b) p

  -- the same of what is stored for a record where this slot stands
  abbrev pub LeavesStored : Address → Option Slot → Record → Overlay B g → Put → Db → Type 0
  LeavesStored at o rec b p db = LeavesEntered at (with_links_of at.set.now.items (rec_opt (slot_opt o)) rec) b p db o rec

  -- the block of the number isn't a bad one
  abbrev pub StandsSound : Address → Overlay B g → Type 0
  StandsSound at a = IsTrue (under a).told → slot_at (shape_at at) (overlay_content a (file_of at.set.now.number)) at.number ≢ Bad

  -- where the record is stored it is under its number, and no slot is freed
  abbrev pub StoresAt : Address → Overlay B g → Overlay B g → Put → Type 0
  StoresAt at a b p = IsTrue (under a).told → IfStoredAs p (λ n. (n ≡ at.number) × TakenStay (desc_at at) (overlay_content a) (overlay_content b))

  -- the same of a data set, where a new record has the next number
  abbrev pub NextTold : Described → ℕ → Option ℕ → Overlay B g → Overlay B g → Put → Type 0
  NextTold desc set number a b p = IsTrue (under a).told → StoresNext desc set number (overlay_content a) (overlay_content b) p

  -- the answer is that of storing the record
  abbrev pub AnswersTold : Described → Overlay B g → Overlay B g → ℕ → Option ℕ → Record → Put → Type 0
  AnswersTold desc a b set number rec p = IsTrue (under a).told → AnswersOver desc (under a).content (overlay_content b) set number rec p

-- what is answered for a record where no number is free
abbrev pub JudgesAt : Address → Record → Put → Db → Type 0
JudgesAt at rec p db = IsJudged (desc_at at) db at.set.now.number (at.set.now.population + 1) (with_links_of at.set.now.items None rec) p
