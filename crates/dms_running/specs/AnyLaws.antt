-- Laws: a restore of any kind, to any live point, begins, writes and stands.
use Rattle.std.specs.Prelude.{ℕ, ◌<◌, ◌≡◌, Bool, List, [], ◌∷◌, ◌++◌, map, Some, None}
use Rattle.dms_site.specs.Files.{Files, stored_of}
use Rattle.dms_history.specs.Events.{AllBlocks, Stored}
use Rattle.dms_history.specs.History.{Pending}
use Rattle.dms_history.specs.Pick.{Dumps, count_at, blocks_at}
use Rattle.dms_history.specs.Here.{here, outcome}
use Rattle.dms_history.specs.Restores.{Ready}
use Rattle.dms_history.specs.Points.{live_points, up_to}
use Rattle.dms_history.specs.Entries.{Kind, Entry, begin_restore, how_of}
use Rattle.dms_history.specs.EntryEvents.{history_of, live_of, next_of}
use Rattle.dms_running.specs.Telling.{Telling}
use Rattle.dms_running.specs.Standing.{Stands, IsWhole}
use Rattle.dms_running.specs.Points.{described_in, points_told, points_of, next_in}
use Rattle.dms_running.specs.Restoring.{Rewritten}
use Rattle.dms_running.specs.ByHow.{IsKeptBy, StandsAsToldBy}

-- Its Begin is sealed over files whose blocks may hold anything where its rule doesn't look: the database stands, its points are those up to the
-- restore's, with their contents and Schemas, the next number is the same, and the restore is to leave the content of its point.
pub record AnyBegun (first : Bool) (es : List Entry) (dumps others : Dumps) (base : AllBlocks) (right stored : Stored) (m : ℕ) (kind : Kind) : Type 0 where
  pub stands : Stands first (es ++ begin_restore m kind ∷ []) others base stored
  pub points : points_told others (es ++ begin_restore m kind ∷ []) stored ≡ map (described_in es) (up_to m (live_points (live_of es) (here dumps (history_of es) right)))
  pub next_same : next_of (es ++ begin_restore m kind ∷ []) ≡ next_of es
  pub leaves : outcome (how_of kind) others (live_of es) m stored ≡ blocks_at (live_of es) (here dumps (history_of es) right) m

abbrev pub AnyBegins : Type 0
AnyBegins = (first : Bool) (es : List Entry) (dumps others : Dumps) (base : AllBlocks) (right stored : Stored) (m : ℕ) (kind : Kind) → Stands first es dumps base right
    → Ready (how_of kind) others (live_of es) base (here dumps (history_of es) right) stored m → AnyBegun first es dumps others base right stored m kind

-- It writes, torn or whole, no block that it keeps: the database stands, and the points are the same.
pub record AnyKept (first : Bool) (es : List Entry) (dumps : Dumps) (base : AllBlocks) (x y : Files) : Type 0 where
  pub stands : Stands first es dumps base (stored_of y)
  pub points : points_told dumps es (stored_of y) ≡ points_told dumps es (stored_of x)

abbrev pub AnyWrites : Type 0
AnyWrites = (first : Bool) (es : List Entry) (dumps : Dumps) (base : AllBlocks) (p : Pending) (x y : Files) → (history_of es).pending ≡ Some p → Stands first es dumps base (stored_of x)
    → Rewritten (IsKeptBy p.how p.entries p.point) x y → AnyKept first es dumps base x y

-- Where all that it writes stands, each block stands as it counts.
abbrev pub AnyRestored : Type 0
AnyRestored = (first : Bool) (es : List Entry) (dumps : Dumps) (base : AllBlocks) (p : Pending) (y : Files) → (history_of es).pending ≡ Some p → Stands first es dumps base (stored_of y)
    → ((f b : ℕ) → b < count_at p.entries p.point f → StandsAsToldBy p.how dumps p.entries p.point y f b)
    → (f b : ℕ) → b < count_at p.entries p.point f → stored_of y f b ≡ here dumps (history_of es) (stored_of y) f b

-- Other dumps, where no restore is pending: the database stands, and the points are the same.
pub record OtherDumps (first : Bool) (es : List Entry) (dumps others : Dumps) (base : AllBlocks) (stored : Stored) : Type 0 where
  pub stands : Stands first es others base stored
  pub points : points_told others es stored ≡ points_told dumps es stored

abbrev pub NewDumpKeeps : Type 0
NewDumpKeeps = (first : Bool) (es : List Entry) (dumps others : Dumps) (base : AllBlocks) (stored : Stored) → (history_of es).pending ≡ None → Stands first es dumps base stored
    → OtherDumps first es dumps others base stored

-- So files that hold a database hold it with other dumps, with all its points and the same next number.
pub record HoldsSame (t : Telling) (files x : Files) : Type 0 where
  pub whole : IsWhole t x
  pub points : points_of t x ≡ points_of t files
  pub next : next_in t x ≡ next_in t files

abbrev pub NewDumpHolds : Type 1
NewDumpHolds = (t : Telling) (files x : Files) → (history_of (t.entries files)).pending ≡ None → IsWhole t files → t.entries x ≡ t.entries files → stored_of x ≡ stored_of files → (t.found files → t.found x)
    → HoldsSame t files x
