-- A file that is given further items in its place.
use Rattle.std.specs.Prelude.{ℕ, ◌+◌, ◌*◌, ◌-◌, ◌<◌, ◌≤◌, ◌≡◌, List, length}
use Rattle.dms_base.specs.declared.value.Value.{Value}
use Rattle.dms_block.specs.Content.{put_block}
use Rattle.dms_desc.specs.Shape.{Shape}
use Rattle.dms_slots.specs.SlotBlocks.{block_at, per_block, slot_at}
use Rattle.dms_reorg.specs.Widened.{IsWidened, IsWidenedFile, up_to}

-- The blocks from a low one on are made, up to a high one, and those before are as they were.
pub record IsMade (s t : Shape) (more : List Value) (bs : List (List ℕ)) (low high : ℕ) (cs : List (List ℕ)) : Type 0 where
  pub long : length cs ≡ high
  pub within : low ≤ high
  pub same : (i : ℕ) → i < low → i < length bs → block_at cs i ≡ block_at bs i
  pub wide : (i : ℕ) → low ≤ i → i < high → IsWidened t more (slot_at s bs) i (block_at cs i)

-- First blocks are added, and then the old ones are made, from the last to the first; each is made of the file as it is then, with no slot behind the old
-- file's last one. At the end that is the new file, where it has a block for each old slot.
pub record InPlace (s t : Shape) (more : List Value) (bs : List (List ℕ)) : Type 0 where
  pub starts : IsMade s t more bs (length bs) (length bs) bs
  pub rises : (cs : List (List ℕ)) (high : ℕ) (x : List ℕ) → IsMade s t more bs (length bs) high cs → IsWidened t more (up_to (length bs * per_block s.items) (slot_at s cs)) high x
      → IsMade s t more bs (length bs) (high + 1) (put_block high x cs)
  pub falls : (cs : List (List ℕ)) (low high : ℕ) (x : List ℕ) → IsMade s t more bs (low + 1) high cs → IsWidened t more (up_to (length bs * per_block s.items) (slot_at s cs)) low x
      → IsMade s t more bs low high (put_block low x cs)
  pub ends : (cs : List (List ℕ)) (high : ℕ) → length bs * per_block s.items ≤ high * per_block t.items → IsMade s t more bs 0 high cs → IsWidenedFile s t more bs cs

abbrev pub EachInPlace : Type 0
EachInPlace = (s t : Shape) (more : List Value) (bs : List (List ℕ)) → 0 < per_block s.items → 0 < per_block t.items → per_block t.items ≤ per_block s.items → InPlace s t more bs

-- The block that is made in a turn: first those behind the old ones, rising, and then the old ones, from the last to the first.
pub record IsInTurn (old count turn block : ℕ) : Type 0 where
  pub behind : turn < count - old → block ≡ old + turn
  pub back : count - old ≤ turn → block + turn + 1 ≡ count
