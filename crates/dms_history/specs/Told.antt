-- What the audit tells of a block at a point, and which blocks come from the structure files.
use Rattle.std.specs.Prelude.{ℕ, ◌≡◌, nat_lt, ◌&&◌, Bool, true, false, List, Option, Some, None}
use Rattle.dms_history.specs.Events.{BlockBytes, Stored, Event}
use Rattle.dms_history.specs.Lists.{until_first, after_first, after_last}
use Rattle.dms_history.specs.Places.{is_control, is_point}
use Rattle.dms_history.specs.History.{Pending, History}
use Rattle.dms_history.specs.Images.{or_else, last_after, first_before}
use Rattle.dms_history.specs.Pick.{Dumps, count_at, pick}
use Rattle.dms_history.specs.Here.{here}
use Rattle.dms_history.specs.Restores.{is_unlogged, takes_stored}

-- the before-image of the first change, where it has one
abbrev pub undone_to : Option (Option BlockBytes) → Option BlockBytes
undone_to None = None
undone_to (Some before) = before

-- The last after-image between the last Control at or before the place and that place, else the before-image of the first change after
-- the place.
unfoldable pub told_block : List Event → ℕ → ℕ → ℕ → Option BlockBytes
told_block live m f b = or_else (last_after f b (after_last is_control (until_first (is_point m) live))) (undone_to (first_before f b (after_first (is_point m) live)))

-- Law: a block at a point is what the audit tells of it, and else what is stored.
pub record TellsBlock (live : List Event) (m f b : ℕ) : Type 0 where
  pub told : (stored : Stored) (x : BlockBytes) → told_block live m f b ≡ Some x → pick live m stored f b ≡ x
  pub kept : (stored : Stored) → told_block live m f b ≡ None → pick live m stored f b ≡ stored f b
  pub unlogged : told_block live m f b ≡ None → is_unlogged live m f b ≡ true
  pub logged : is_unlogged live m f b ≡ true → told_block live m f b ≡ None

abbrev pub EachTold : Type 0
EachTold = (live : List Event) (m f b : ℕ) → TellsBlock live m f b

-- what counts as a block is what is stored: no restore is pending, or the pending one has the block and takes it from there
abbrev pub counts_stored : Option Pending → ℕ → ℕ → Bool
counts_stored None f b = true
counts_stored (Some p) f b = nat_lt b (count_at p.entries p.point f) && takes_stored p.how p.entries p.point f b

-- A block that is below its file's count at a point comes from the structure file there, a restore pending or not.
abbrev pub comes_from_file : History → ℕ → ℕ → ℕ → Bool
comes_from_file h n f b = is_unlogged h.live n f b && counts_stored h.pending f b

-- Law: where it does, the block at the point is what is stored; where it doesn't, nothing that is stored counts.
pub record FromFile (h : History) (n f b : ℕ) : Type 0 where
  pub stored : comes_from_file h n f b ≡ true → (dumps : Dumps) (stored : Stored) → pick h.live n (here dumps h stored) f b ≡ stored f b
  pub elsewhere : comes_from_file h n f b ≡ false → (dumps : Dumps) (one two : Stored) → pick h.live n (here dumps h one) f b ≡ pick h.live n (here dumps h two) f b

abbrev pub EachFromFile : Type 0
EachFromFile = (h : History) (n f b : ℕ) → FromFile h n f b
