-- The file of a data set that has further items.
use Rattle.std.specs.Prelude.{ℕ, nat_le, if◌then◌else◌, ◌+◌, ◌*◌, ◌<◌, ◌≤◌, ◌≡◌, ◌++◌, true, List, length, slice_get, IsTrue, Some, None}
use Rattle.std.specs.declared.option.Option.{Option}
use Rattle.std.specs.List.{list_all}
use Rattle.dms_base.specs.declared.value.Value.{Value}
use Rattle.dms_block.specs.Content.{Content, with_block}
use Rattle.dms_desc.specs.Files.{file_of}
use Rattle.dms_desc.specs.declared.structure.Item.{Item}
use Rattle.dms_desc.specs.Fitting.{values_fit}
use Rattle.dms_desc.specs.Plain.{ArePlain}
use Rattle.dms_desc.specs.Shape.{Shape}
use Rattle.dms_layout.specs.Slots.{AreKinds, slot_of, slot_width}
use Rattle.dms_layout.specs.declared.slot.Slot.{Slot}
use Rattle.dms_layout.specs.declared.slot.SlotRead.{SlotRead}
use Rattle.dms_layout.specs.declared.slot.SlotRead.TheVariants.{Free, Used, Bad}
use Rattle.dms_slots.specs.SlotBlocks.{block_at, is_block, or_free, per_block, slot_at, slots_in}

-- a slot with these values behind those of its record
abbrev pub with_values : List Value → Slot → Slot
with_values more slot = record { rec = record { owner = slot.rec.owner; values = slot.rec.values ++ more }; counted = slot.counted; owned = slot.owned }

-- the same of what is read of a slot
abbrev pub widened : List Value → SlotRead → SlotRead
widened more Free = Free
widened more (Used slot) = Used (with_values more slot)
widened more Bad = Bad

-- The second data set has the items of the first, and then some for which these values fit. A block holds a slot of it.
pub record Widens (s t : Shape) (more : List Value) : Type 0 where
  pub number : t.number ≡ s.number
  pub owner : t.owner ≡ s.owner
  pub further : List Item
  pub items : t.items ≡ s.items ++ further
  pub fit : values_fit further more ≡ true
  pub plain : ArePlain more
  pub kinds : AreKinds t.items
  pub room : slot_width t.items ≤ 1024

-- what is read of slots, up to a last one; behind it they are free
abbrev pub up_to : ℕ → (ℕ → SlotRead) → ℕ → SlotRead
up_to last old n = if nat_le n last then old n else Free

-- Block b of the new file: each of its slots is the old one with its number, widened.
pub record IsWidened (t : Shape) (more : List Value) (old : ℕ → SlotRead) (b : ℕ) (block : List ℕ) : Type 0 where
  pub good : is_block t block ≡ true
  pub each : (p : ℕ) → p < per_block t.items → or_free (slice_get (slots_in t block) p) ≡ widened more (old (b * per_block t.items + p + 1))

-- the new file: each slot is the old one, widened
pub record IsWidenedFile (s t : Shape) (more : List Value) (bs cs : List (List ℕ)) : Type 0 where
  pub blocks : list_all (is_block t) cs ≡ true
  pub slots : (n : ℕ) → 1 ≤ n → slot_at t cs n ≡ widened more (slot_at s bs n)

-- the slots behind POPULATION are free
abbrev pub HasNoneBehind : Shape → List (List ℕ) → Type 0
HasNoneBehind s bs = (n : ℕ) → s.population < n → slot_at s bs n ≡ Free

-- ---- laws

-- A file whose blocks are widened, and that has one for each slot that isn't free, is the new file.
abbrev pub WidensFile : Type 0
WidensFile = (s t : Shape) (more : List Value) (bs cs : List (List ℕ)) → 0 < per_block t.items → ((b : ℕ) → b < length cs → IsWidened t more (slot_at s bs) b (block_at cs b))
    → ((n : ℕ) → length cs * per_block t.items < n → slot_at s bs n ≡ Free) → IsWidenedFile s t more bs cs

-- A record that fits the first data set fits the second one with these values behind its own.
abbrev pub WidenedFits : Type 0
WidenedFits = (s t : Shape) (more : List Value) (slot : Slot) → Widens s t more → IsTrue (values_fit s.items slot.rec.values) → IsTrue (values_fit t.items (slot.rec.values ++ more))

-- Where the blocks up to that of a slot are those of another file, so is the slot. The slots of a widened block stand in blocks of the old file that aren't
-- behind it: so where these still are the old ones, and no slot behind the last one is read, it is made of the old file, whatever stands in the others.
pub record ReadsBefore (s t : Shape) (more : List Value) : Type 0 where
  pub same : (bs cs : List (List ℕ)) (n b : ℕ) → 0 < per_block s.items → n ≤ (b + 1) * per_block s.items → ((i : ℕ) → i ≤ b → block_at cs i ≡ block_at bs i) → slot_at s cs n ≡ slot_at s bs n
  pub fewer : Widens s t more → per_block t.items ≤ per_block s.items
  pub made : (bs cs : List (List ℕ)) (b : ℕ) (block : List ℕ) → 0 < per_block s.items → per_block t.items ≤ per_block s.items → ((i : ℕ) → i ≤ b → i < length bs → block_at cs i ≡ block_at bs i)
      → IsWidened t more (up_to (length bs * per_block s.items) (slot_at s cs)) b block → IsWidened t more (slot_at s bs) b block

abbrev pub EachReadsBefore : Type 0
EachReadsBefore = (s t : Shape) (more : List Value) → ReadsBefore s t more

-- ---- what is laid so far

-- The bytes of a slot that isn't free, widened; none of one that is.
abbrev pub IsWidenedSlot : Shape → List Value → SlotRead → Option (List ℕ) → Type 0
IsWidenedSlot t more r None = r ≡ Free
IsWidenedSlot t more r (Some bytes) = (slot : Slot) × (r ≡ Used slot) × (slot_of t bytes ≡ Used (with_values more slot)) × (length bytes ≡ slot_width t.items)

-- The first k slots of block b are laid, and the others are free.
pub record LaidUpTo (t : Shape) (more : List Value) (old : ℕ → SlotRead) (b k : ℕ) (block : List ℕ) : Type 0 where
  pub good : is_block t block ≡ true
  pub done : (p : ℕ) → p < k → or_free (slice_get (slots_in t block) p) ≡ widened more (old (b * per_block t.items + p + 1))
  pub rest : (p : ℕ) → k ≤ p → or_free (slice_get (slots_in t block) p) ≡ Free

-- ---- one block in its place

-- Block b of the file was made of the content, and no other block is another one.
pub record WidensAt (s t : Shape) (more : List Value) (last b : ℕ) (old new : Content) : Type 0 where
  pub block : List ℕ
  pub is : new ≡ with_block old (file_of s.number) b block
  pub widened : IsWidened t more (up_to last (slot_at s (old (file_of s.number)))) b block
