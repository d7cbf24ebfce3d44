-- The table of a point from the last entries of a trail alone.
use Rattle.std.specs.Prelude.{ℕ, ◌-◌, ◌<◌, ◌≤◌, ◌≡◌, ◌⊎◌, ◌==◌, if◌then◌else◌, Bool, true, List, [], ◌∷◌, ◌++◌, map, drop, Option, Some, None}
use Rattle.dms_site.specs.Files.{Files}
use Rattle.dms_history.specs.Agrees.{Numbered}
use Rattle.dms_history.specs.Entries.{Entry, schema_part, image, byte_range, quiet_point, control_point, begin_restore}
use Rattle.dms_history.specs.Events.{Counts, Event, control}
use Rattle.dms_history.specs.Images.{first_before}
use Rattle.dms_history.specs.Lists.{has, until_first, after_first, after_last}
use Rattle.dms_history.specs.Places.{is_control, is_point}
use Rattle.dms_history.specs.Told.{undone_to}
use Rattle.dms_history.specs.EntryEvents.{events_in, live_of, next_of}
use Rattle.dms_history.specs.LawsOfRanges.{HasImages}
use Rattle.dms_history.specs.Ranges.{live_logged}
use Rattle.dms_history.specs.declared.event.FileCount.{FileCount}
use Rattle.dms_audfile.specs.AuditTrail.{AreThere}
use Rattle.dms_audfile.specs.Ends.{Grown, WritesAt}
use Rattle.dms_audfile.specs.Scanning.{Placed, place_in, entry_in}
use Rattle.dms_audfile.specs.Tails.{sealed_in}
use Rattle.dms_audfile.specs.TrailEntries.{trail_entries}
use Rattle.dms_audfile.specs.declared.audit_end.AuditEnd.{AuditEnd}
use Rattle.dms_audfile.specs.declared.place.EntryPlace.{EntryPlace}
use Rattle.dms_restore.specs.declared.audit_block.AuditBlock.{AuditBlock}
use Rattle.dms_restore.specs.declared.told.Told.{Told}
use Rattle.dms_restore.specs.Finding.{IsFoundFrom}
use Rattle.dms_restore.specs.Scanned.{AreInAudit}
use Rattle.dms_restore.specs.Table.{AreWhole, last_of, IsAmong, IsTable}

-- the last sealed block of a trail
abbrev pub last_block : AuditEnd → AuditBlock
last_block end = if end.count == 0 then record { file = end.file - 1; block = end.total } else record { file = end.file; block = end.count }

-- the block is a sealed one of the trail from file `first` on
abbrev pub IsInTrail : AuditEnd → ℕ → AuditBlock → Type 0
IsInTrail end first b = (first ≤ b.file) × (b.file ≤ end.file) × (10001 ≤ b.file) × (1 ≤ b.block) × (b.block ≤ sealed_in end.total end.file end.count b.file)

-- the number of a Control
abbrev pub control_number : Entry → Option ℕ
control_number (schema_part part parts bytes) = None
control_number (image f b before after) = None
control_number (byte_range f b place bytes) = None
control_number (quiet_point n) = None
control_number (control_point n next counts) = Some n
control_number (begin_restore n kind) = None

-- The numbers of live Quiets and Controls never fall, and every live Range has an Image of its block since the last Control before it.
pub record AreInOrder (entries : List Entry) : Type 0 where
  pub numbered : Numbered (live_of entries) (next_of entries)
  pub images : HasImages (live_logged [] (events_in entries))

-- Live changes end with the Control of a restore to point m: before it stands what was live up to the first place of that point, none where it
-- had no place.
pub record EndsRestore (live : List Event) (m : ℕ) : Type 0 where
  pub before : List Event
  pub next : ℕ
  pub counts : Counts
  pub described : Bool
  pub are : live ≡ until_first (is_point m) before ++ control m next counts described ∷ []

-- The point has a place among live changes, and behind the first one no block was changed.
pub record IsUnchangedSince (live : List Event) (m : ℕ) : Type 0 where
  pub lives : has (is_point m) live ≡ true
  pub none : (f b : ℕ) → first_before f b (after_first (is_point m) live) ≡ None

-- The point has a place among live changes, and between the first one and the last Control no block was changed: at that Control each block is as
-- at the point.
pub record IsAtControl (live : List Event) (m : ℕ) : Type 0 where
  pub lives : has (is_point m) live ≡ true
  pub still : List Event
  pub are : after_first (is_point m) live ≡ still ++ after_last is_control live
  pub none : (f b : ℕ) → first_before f b still ≡ None

-- so it is of the live changes of these entries
abbrev pub IsAtLastControl : List Entry → ℕ → Type 0
IsAtLastControl es m = IsAtControl (live_of es) m

-- The table undoes changes: of each block that one of them changes it tells what stood before the first one, and no other block.
pub record Undoes (since : List Event) (files : Files) (table : List Told) : Type 0 where
  pub whole : AreWhole files table
  pub tells : (f b : ℕ) → undone_to (first_before f b since) ≡ last_of files f b table
  pub among : (f b : ℕ) → IsAmong f b table → last_of files f b table ≡ None → ⊥

-- so it does of the live changes behind the last Control of these entries
abbrev pub UndoesLast : List Entry → Files → List Told → Type 0
UndoesLast es files table = Undoes (after_last is_control (live_of es)) files table

-- The table is that of point m; or it undoes what stands behind the last Control, where that may do.
abbrev pub Serves : Bool → List Entry → ℕ → Files → List Told → Type 0
Serves at_control es m files table = IsTable (live_of es) m files table ⊎ ((at_control ≡ true) × UndoesLast es files table)

-- Whatever stands before a Control, and these entries directly behind it: the table undoes what stands behind the last Control.
abbrev pub UndoesBehind : List Entry → Files → List Told → Type 0
UndoesBehind es files table = (front : List Entry) (k next : ℕ) (counts : List FileCount) → AreInOrder (front ++ control_point k next counts ∷ es)
    → UndoesLast (front ++ control_point k next counts ∷ es) files table

-- So it is of the entries that stand at these places in old files, over whatever files in which they stand there.
abbrev pub UndoesPlaced : Files → List EntryPlace → List Told → Type 0
UndoesPlaced old places table = (placed : List Placed) → AreInAudit places → places ≡ map place_in placed → AreThere old placed
    → (new : Files) → AreThere new placed → UndoesBehind (map entry_in placed) new table

-- Whatever stands before an earlier Control, and these entries directly behind it: the table is that of point m.
abbrev pub TellsBehind : List Entry → ℕ → Files → List Told → Type 0
TellsBehind es m files table = (front : List Entry) (k next : ℕ) (counts : List FileCount) → k < m → AreInOrder (front ++ control_point k next counts ∷ es)
    → IsTable (live_of (front ++ control_point k next counts ∷ es)) m files table

-- So it is of the entries that stand at these places in old files, over whatever files in which they stand there.
abbrev pub TellsPlaced : Files → List EntryPlace → ℕ → List Told → Type 0
TellsPlaced old places m table = (placed : List Placed) → AreInAudit places → places ≡ map place_in placed → AreThere old placed
    → (new : Files) → AreThere new placed → TellsBehind (map entry_in placed) m new table

-- Whatever stands before the entries at these places, the table serves for point m.
abbrev pub TellsLast : Bool → Files → List EntryPlace → ℕ → List Told → Type 0
TellsLast at_control old places m table = (placed : List Placed) → AreInAudit places → places ≡ map place_in placed → AreThere old placed
    → (new : Files) → AreThere new placed → (front : List Entry) → AreInOrder (front ++ map entry_in placed) → Serves at_control (front ++ map entry_in placed) m new table

-- Among these entries the last of the first so many is a Control of this number.
pub record HasControl (placed : List Placed) (up_to number : ℕ) : Type 0 where
  pub front : List Placed
  pub control : Placed
  pub are : placed ≡ front ++ control ∷ drop up_to placed
  pub number_is : control_number control.entry ≡ Some number

-- So it is of the entries that stand at these places.
abbrev pub FindsControl : Files → List EntryPlace → ℕ → ℕ → Type 0
FindsControl files places up_to number = (placed : List Placed) → places ≡ map place_in placed → AreThere files placed → HasControl placed up_to number

-- The trail from file `first` on ends where it is said to, scanning finds its entries, and they are in order.
pub record IsOrdered (end : AuditEnd) (first : ℕ) (files : Files) : Type 0 where
  pub writes : WritesAt end first files
  pub found : IsFoundFrom end.total first files
  pub order : AreInOrder (trail_entries end.total first files)

-- The table serves for point m of such a trail, and does so while the trail grows.
abbrev pub TellsTrail : Bool → AuditEnd → ℕ → Files → ℕ → List Told → Type 0
TellsTrail at_control end first files m table = IsOrdered end first files → (new : Files) → Grown end.total first files new → Serves at_control (trail_entries end.total first files) m new table
