-- What a stop within a run leaves of the files of a running database.
use Rattle.std.specs.Prelude.{ℕ, ◌≡◌, ◌≤◌, ◌+◌, List, ◌++◌, length, map, Some}
use Rattle.std.specs.List.{AllByRecursion}
use Rattle.std.specs.declared.option.Option.{Option}
use Rattle.dms_desc.specs.Shape.{Described}
use Rattle.dms_desc_bytes.specs.WellFormed.{IsWellFormed}
use Rattle.dms_model.specs.Db.{Db}
use Rattle.dms_model.specs.Points.{Point, Quiet, Stop, known_point}
use Rattle.dms_model.specs.Valid.{IsValid}
use Rattle.dms_runner.specs.Answers.{last_quiet}
use Rattle.dms_runner.specs.Events.{RunEvent, quiets_of, CrashesWithin}
use Rattle.dms_running.specs.Telling.{Telling}
use Rattle.dms_running.specs.Standing.{IsWhole}
use Rattle.dms_running.specs.Points.{DescribedPoint, points_of, next_in}
use Rattle.dms_moments.specs.Moments.{Runs}
use Rattle.dms_site.specs.declared.site.Site.{Ghosts}
use Rattle.dms_site.specs.Files.{Files, Left}
use Rattle.dms_store.specs.Lifted.{point_of, stop_of, lift_stops}
use Rattle.dms_wal.specs.Lifting as wal
use Rattle.dms_restore.specs.Logging.{telling_of, telling, trail_of}
use Rattle.dms_restore.specs.Views.{view_of}
use Rattle.dms_wal.specs.declared.running.Running.{Running}
use Rattle.dms_wal.specs.Database.{running_held}
use Rattle.dms_wal.specs.Lifting.{block_point}
use Rattle.dms_run.specs.States.{LivesEndWith, HasLive, told_live}
use Rattle.dms_run.specs.State.{StateAt, StateOf, HasNext}
use Rattle.dms_run.specs.Stops.{last_quiet_number, PrintedUpTo, RunLeaves}

-- the points of a store on the blocks of a running database, and what a stop leaves of it
abbrev pub points_seen : Described → List DescribedPoint → List Point
points_seen desc points = map (point_of desc) (map block_point points)

abbrev pub stop_seen : Telling → Described → Left → Stop
stop_seen t desc x = stop_of desc (wal.stop_of t x)

-- The files that a stop within a run leaves hold a database. Its live points are those of entry, as they were, and behind them exactly the
-- first so many of the quiet points of the run, under the Schema of the description, and the blocks of each spell its own database. At least
-- those of the syncpoints before what was printed last are left, and the next number rose by one at least for each that is left, and by one at most
-- for each of all.
pub record RunLeavesFiles (t : Telling) (desc : Described) (entry : Option (List ℕ)) (points : List DescribedPoint) (n : ℕ) (db : Db) (next : ℕ) (events : List RunEvent) (x : Left) : Type 0 where
  pub made : List Quiet
  pub rest : List Quiet
  pub front_of : made ++ rest ≡ quiets_of events
  pub state : LivesEndWith desc (points_of t x.files) (last_quiet_number n made) (last_quiet db made)
  pub more : List DescribedPoint
  pub kept : points_of t x.files ≡ points ++ more
  pub are : map (told_live desc) more ≡ map known_point made
  pub each : AllByRecursion (HasLive desc (points_of t x.files)) made
  pub next_is : next + length made ≤ next_in t x.files
  pub not_risen : next_in t x.files ≤ next + length (quiets_of events)
  pub text : (b : List ℕ) → entry ≡ Some b → PrintedUpTo b events (length made) x.said
  pub whole : IsWhole t x.files

-- So it is where a stop lies within events over a store on the blocks of a running database.
abbrev pub FilesLaw : Type 0
FilesLaw = (total first : ℕ) (desc : Described) (entry : Option (List ℕ)) (points : List DescribedPoint) (n : ℕ) (db : Db) (next : ℕ) (events : List RunEvent) (x : Left)
    → LivesEndWith desc points n db → CrashesWithin (IsWhole (telling_of total first)) entry (points_seen desc points) (length points) next events (stop_seen (telling_of total first) desc x)
    → RunLeavesFiles (telling_of total first) desc entry points n db next events x

module _ {S : Type 0} (g : Ghosts S) where
  -- What stops leave of a store on the blocks of a running database they leave of the files of its site.
  abbrev pub FilesLeft : Running S → Running S → Type 0
  FilesLeft a b = trail_of (view_of g b.log) ≡ trail_of (view_of g a.log) → (desc : Described) (entry : Option (List ℕ)) (points : List DescribedPoint) (n : ℕ) (db : Db) (next : ℕ) (events : List RunEvent)
      → Runs (lift_stops desc (running_held g a).clock) (lift_stops desc (running_held g b).clock) (RunLeaves (IsWhole (telling (view_of g a.log))) entry (points_seen desc points) n db next events)
      → Runs (g.clock a.log.site) (g.clock b.log.site) (RunLeavesFiles (telling (view_of g a.log)) desc entry points n db next events)

-- The points that files hold, each with a valid database, are states that they stand for: scanning finds their entries, and each point has its Schema.
pub record StandsLaw : Type 0 where
  pub at : (total first : ℕ) (files : Files) (desc : Described) (q : Quiet) → IsWellFormed desc → IsValid desc q.1 → IsWhole (telling_of total first) files
      → HasLive desc (points_of (telling_of total first) files) q → StateAt files q.0 desc q.1
  pub last : (total first : ℕ) (files : Files) (desc : Described) (n : ℕ) (db : Db) → IsWellFormed desc → IsValid desc db → IsWhole (telling_of total first) files
      → LivesEndWith desc (points_of (telling_of total first) files) n db → StateOf files n desc db
  pub next : (total first : ℕ) (files : Files) → IsWhole (telling_of total first) files → HasNext files (next_in (telling_of total first) files)
