-- The set of the blocks with an Image since the last Control.
use Rattle.std.specs.Prelude.{ℕ, ◌<◌, ◌≡◌, ◌||◌, Bool, true, false, List, []}
use Rattle.std.specs.HashSet.{contains, spare}
use Rattle.dms_history.specs.Images.{is_at}
use Rattle.dms_history.specs.Lists.{has, after_last}
use Rattle.dms_history.specs.Ranges.{is_control_logged, is_image, live_logged}
use Rattle.dms_history.specs.Entries.{Entry}
use Rattle.dms_history.specs.EntryEvents.{events_in}
use Rattle.dms_pool.specs.Entries.{same_key}
use Rattle.dms_restore.specs.Counts.{count_of}
use Rattle.dms_restore.specs.Logging.{LogView, entries}
use Rattle.dms_restore.specs.TailTables.{IsAtLastControl}
use Rattle.dms_wal.specs.declared.imaged.ImagedBlocks.{ImagedBlocks}

-- whether a block is among them
abbrev pub has_block : ImagedBlocks → ℕ → ℕ → Bool
has_block set f b = contains same_key set.keys (record { file = f; block = b })

-- how many blocks more fit without memory
abbrev pub room_of : ImagedBlocks → ℕ
room_of set = spare set.keys

abbrev pub HasNone : ImagedBlocks → Type 0
HasNone set = (f b : ℕ) → has_block set f b ≡ false

-- the last Control is the same
abbrev pub KeepsControl : ImagedBlocks → ImagedBlocks → Type 0
KeepsControl old new = (new.at_point ≡ old.at_point) × (new.number ≡ old.number)

abbrev pub SameImages : ImagedBlocks → ImagedBlocks → Type 0
SameImages old new = ((f b : ℕ) → has_block new f b ≡ has_block old f b) × KeepsControl old new

-- this block is one more of them
abbrev pub AddsImage : ℕ → ℕ → ImagedBlocks → ImagedBlocks → Type 0
AddsImage g k old new = ((f b : ℕ) → has_block new f b ≡ (has_block old f b || is_at f b g k)) × KeepsControl old new

-- block b of file f has an Image itself since the last Control
abbrev pub has_image : List Entry → ℕ → ℕ → Bool
has_image es f b = has (is_image f b) (after_last is_control_logged (live_logged [] (events_in es)))

-- The set is the blocks with an Image itself since the last Control. Where it says that each block was at this Control as at the point of its number,
-- that is so.
pub record IsImagedSet (v : LogView) (set : ImagedBlocks) : Type 0 where
  pub has_them : (f b : ℕ) → has_block set f b ≡ has_image (entries v) f b
  pub at_point : set.at_point ≡ true → IsAtLastControl (entries v) set.number

-- each of them is one of the table
abbrev pub ImagesCounted : ImagedBlocks → List ℕ → Type 0
ImagesCounted set counts = (f b : ℕ) → has_block set f b ≡ true → b < count_of counts f
