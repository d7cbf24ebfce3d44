-- A planned list of entries that is appended and sealed over files on which nothing was pending.
use Rattle.std.specs.Prelude.{ℕ, ◌<◌, ◌≡◌, List, ◌++◌, take}
use Rattle.dms_moments.specs.Moments.{Clock, Now, Runs}
use Rattle.dms_site.specs.Files.{Files, Left, stored_of}
use Rattle.dms_history.specs.Events.{AllBlocks}
use Rattle.dms_history.specs.Entries.{Entry}
use Rattle.dms_history.specs.EntryEvents.{history_of, next_of}
use Rattle.dms_running.specs.FromDumps.{DumpsInOrder}
use Rattle.dms_running.specs.Telling.{Telling}
use Rattle.dms_running.specs.Standing.{Stands}
use Rattle.dms_running.specs.Points.{points_told, points_of, next_in}
use Rattle.dms_running.specs.Sealing.{Appended, Settled}
use Rattle.dms_running.specs.Running.{State}

-- the first so many of the planned entries are sealed, and scanning finds them, and dumps, where it found those of the start
pub record Planned (t : Telling) (es : List Entry) (start : Files) (x : Left) : Type 0 where
  pub some : ℕ
  pub sealed : t.entries x.files ≡ t.entries start ++ take some es
  pub found : t.found start → t.found x.files
  pub dumps_found : (d : ℕ) → t.dump_found start d → t.dump_found x.files d
  pub above : (g : ℕ) → 20000 < g → x.files g ≡ start g

-- So many entries were appended one after another since a moment at which nothing waited or was pending: the first of them are sealed,
-- the others wait.
pub record Lays (t : Telling) (es : List Entry) (start : Files) (old : Clock Left) (s : State) : Type 0 where
  pub appended : Appended t es start s.files s.waiting
  pub settled : Settled t s.files s.clock
  pub since : Runs old s.clock (Planned t es start)
  pub now : (x : Left) → Now s.clock x → Planned t es start x

-- What holds of each prefix of a plan: it has the points of the start, the same next number, and stands, and the dump of a restore that
-- is pending is in order.
pub record KeepsAll (t : Telling) (es : List Entry) (start : Files) (base : AllBlocks) : Type 0 where
  pub points : (k : ℕ) → points_told (t.dumps start) (t.entries start ++ take k es) (stored_of start) ≡ points_of t start
  pub next : (k : ℕ) → next_of (t.entries start ++ take k es) ≡ next_in t start
  pub stands : (k : ℕ) → Stands t.first (t.entries start ++ take k es) (t.dumps start) base (stored_of start)
  pub order : (k : ℕ) → DumpsInOrder (t.dump_found start) (t.dumps start) (history_of (t.entries start ++ take k es)).pending
