-- A copy of a trail from its first file on, whose structure files follow the entries.
use Rattle.std.specs.Prelude.{ℕ, ◌≡◌, Bool, true, false, List, [], ◌∷◌, ◌++◌, length, Option, Some, None}
use Rattle.dms_history.specs.Events.{BlockBytes, AllBlocks, Stored, Event, quiet, roll_back}
use Rattle.dms_history.specs.Lists.{has, after_last}
use Rattle.dms_history.specs.Places.{is_control, IsLive}
use Rattle.dms_history.specs.Images.{last_after}
use Rattle.dms_history.specs.History.{Pending}
use Rattle.dms_history.specs.Base.{opening, from_control, Sound, OpenedFrom}
use Rattle.dms_history.specs.Agrees.{ListAgrees}
use Rattle.dms_history.specs.Restores.{is_unlogged}
use Rattle.dms_history.specs.Told.{told_block}
use Rattle.dms_history.specs.Ranges.{live_logged}
use Rattle.dms_history.specs.LawsOfRanges.{HasImages}
use Rattle.dms_history.specs.Entries.{Entry, schema_part, image, byte_range, quiet_point, control_point, begin_restore}
use Rattle.dms_history.specs.EntryEvents.{events_in, history_of, live_of, next_of, BeginsAlone}
use Rattle.dms_running.specs.Begun.{ByAudit}

-- no file has a block
abbrev pub no_blocks : AllBlocks
no_blocks f = []

abbrev pub or_no_bytes : Option BlockBytes → BlockBytes
or_no_bytes None = []
or_no_bytes (Some x) = x

-- what live entries tell last of each block, no bytes where they tell nothing of it
abbrev pub last_told : List Event → Stored
last_told live f b = or_no_bytes (last_after f b live)

-- The entries of a trail from its first file on agree among themselves: all but what they have to do with structure files.
pub record AgreesAlone (es : List Entry) : Type 0 where
  pub lists : ListAgrees true (live_of es) (next_of es) (last_told (live_of es))
  pub alone : BeginsAlone (events_in es)
  pub images : HasImages (live_logged [] (events_in es))

-- A restore that is pending takes no block from a dump, its point is live, and the entries before its Begin lead from nothing.
pub record PendingTells (p : Pending) : Type 0 where
  pub by_audit : ByAudit p.how
  pub lives : IsLive p.entries p.point
  pub sound : Sound (from_control p.entries) no_blocks (last_told p.entries)
  pub opened : OpenedFrom (opening p.entries) no_blocks

-- What stands in the structure files: each block with a live after-image that doesn't change after the last Control; while a restore is pending
-- each of them of which the audit tells nothing at the restore's point.
abbrev pub StandsBy : Option Pending → List Event → Stored → Type 0
StandsBy None live stored = (f b : ℕ) (x : BlockBytes) → last_after f b live ≡ Some x → last_after f b (after_last is_control live) ≡ None → stored f b ≡ x
StandsBy (Some p) live stored = (f b : ℕ) (x : BlockBytes) → last_after f b live ≡ Some x → is_unlogged p.entries p.point f b ≡ true → stored f b ≡ x

-- A copy follows these entries: they agree among themselves, and the structure files stand by them.
pub record Follows (es : List Entry) (stored : Stored) : Type 0 where
  pub tells : AgreesAlone es
  pub pending : (p : Pending) → (history_of es).pending ≡ Some p → PendingTells p
  pub stands : StandsBy (history_of es).pending (live_of es) stored

-- each block with a live after-image stands so
abbrev pub AllStand : List Event → Stored → Type 0
AllStand live stored = (f b : ℕ) (x : BlockBytes) → last_after f b live ≡ Some x → stored f b ≡ x

-- What settling writes as a block, or none where it leaves it: the last after-image since the last Control; while a restore is pending what the
-- audit tells of it at the restore's point.
abbrev pub settled_to : Option Pending → List Event → ℕ → ℕ → Option BlockBytes
settled_to None live f b = last_after f b (after_last is_control live)
settled_to (Some p) live f b = told_block p.entries p.point f b

-- Of the blocks with a live after-image that settling leaves, those that stand whole stay.
abbrev pub LeavesSettled : Option Pending → List Event → Stored → Stored → Type 0
LeavesSettled p live stored written = (f b : ℕ) (x : BlockBytes) → last_after f b live ≡ Some x → settled_to p live f b ≡ None → length (stored f b) ≡ 1024 → written f b ≡ stored f b

-- Each block with a live after-image that settling writes stands as it is to be.
abbrev pub WritesSettled : Option Pending → List Event → Stored → Type 0
WritesSettled p live written = (f b : ℕ) (x y : BlockBytes) → last_after f b live ≡ Some x → settled_to p live f b ≡ Some y → length y ≡ 1024 → written f b ≡ y

-- each after-image has 1,024 bytes
abbrev pub AllWhole : List Event → Type 0
AllWhole live = (f b : ℕ) (x : BlockBytes) → last_after f b live ≡ Some x → length x ≡ 1024

-- ---- the entries of a block

abbrev pub is_change : Entry → Bool
is_change (schema_part part parts bytes) = false
is_change (image f b before after) = true
is_change (byte_range f b place bytes) = true
is_change (quiet_point n) = false
is_change (control_point n next counts) = false
is_change (begin_restore n kind) = false

abbrev pub is_control_entry : Entry → Bool
is_control_entry (schema_part part parts bytes) = false
is_control_entry (image f b before after) = false
is_control_entry (byte_range f b place bytes) = false
is_control_entry (quiet_point n) = false
is_control_entry (control_point n next counts) = true
is_control_entry (begin_restore n kind) = false

-- no Control stands behind an Image or a Range
pub record ControlsFirst (es : List Entry) : Type 0 where
  pub front : List Entry
  pub back : List Entry
  pub is : es ≡ front ++ back
  pub calm : has is_change front ≡ false
  pub free : has is_control_entry back ≡ false

-- ---- settling by a restore

-- the pending restore; where none is pending one to a point that would be made now
abbrev pub settling : Option Pending → List Event → ℕ → Pending
settling None live n = record { entries = live ++ quiet n ∷ []; point = n; how = roll_back }
settling (Some p) live n = p
