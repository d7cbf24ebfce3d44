-- A restore of any kind that begins over files of which a stop leaves what is read.
use Rattle.std.specs.Prelude.{ℕ, ◌<◌, ◌≡◌, ◌⊎◌, List, [], map, Some}
use Rattle.dms_site.specs.Files.{Files, Left, Only, stored_of}
use Rattle.dms_history.specs.Events.{AllBlocks, Stored}
use Rattle.dms_history.specs.Here.{here}
use Rattle.dms_history.specs.Restores.{Ready}
use Rattle.dms_history.specs.Points.{live_points, up_to}
use Rattle.dms_history.specs.Entries.{Kind, how_of}
use Rattle.dms_history.specs.EntryEvents.{history_of, live_of}
use Rattle.dms_running.specs.FromDumps.{DumpsInOrder}
use Rattle.dms_running.specs.Telling.{Telling}
use Rattle.dms_running.specs.Standing.{Stands, IsWhole}
use Rattle.dms_running.specs.Points.{DescribedPoint, described_in, points_of, next_in}
use Rattle.dms_running.specs.Running.{State}

-- Nothing waits, a stop leaves what is read, scanning finds it, and with these right blocks the database stands; the restore may begin over the blocks
-- that are there, and its dump is in order.
pub record BeginsFrom (t : Telling) (a : State) (right : Stored) (m : ℕ) (kind : Kind) : Type 0 where
  pub base : AllBlocks
  pub nothing : a.waiting ≡ []
  pub only : Only a.files a.clock
  pub found : t.found a.files
  pub stands : Stands t.first (t.entries a.files) (t.dumps a.files) base right
  pub ready : Ready (how_of kind) (t.dumps a.files) (live_of (t.entries a.files)) base (here (t.dumps a.files) (history_of (t.entries a.files)) right) (stored_of a.files) m
  pub order : DumpsInOrder (t.dump_found a.files) (t.dumps a.files) (Some (record { entries = live_of (t.entries a.files); point = m; how = how_of kind }))

-- the points up to a point, over the right blocks
abbrev pub points_to : Telling → State → Stored → ℕ → List DescribedPoint
points_to t a right m = map (described_in (t.entries a.files)) (up_to m (live_points (live_of (t.entries a.files)) (here (t.dumps a.files) (history_of (t.entries a.files)) right)))

-- The same sealed entries, which scanning finds, and the same dumps and structure files; a dump that was found is found.
pub record IsUntouched (t : Telling) (files : Files) (x : Left) : Type 0 where
  pub found : t.found x.files
  pub dumps_found : (d : ℕ) → t.dump_found files d → t.dump_found x.files d
  pub entries_same : t.entries x.files ≡ t.entries files
  pub above : (g : ℕ) → 20000 < g → x.files g ≡ files g

-- The Begin is sealed: files that hold a database, with exactly the points up to that point, and the same next number.
pub record HasBegun (t : Telling) (a : State) (right : Stored) (m : ℕ) (x : Left) : Type 0 where
  pub whole : IsWhole t x.files
  pub points : points_of t x.files ≡ points_to t a right m
  pub next_same : next_in t x.files ≡ next_in t a.files

abbrev pub BeginLeaves : Telling → State → Stored → ℕ → Left → Type 0
BeginLeaves t a right m x = IsUntouched t a.files x ⊎ HasBegun t a right m x
