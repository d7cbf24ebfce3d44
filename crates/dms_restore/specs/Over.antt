-- A restore that goes on over any files: what it writes, and what it seals behind that, whatever the files hold.
use Rattle.std.specs.Prelude.{ℕ, ◌<◌, ◌⊎◌, List}
use Rattle.dms_moments.specs.Moments.{Clock, Runs, Steps}
use Rattle.dms_site.specs.Files.{Files, Left}
use Rattle.dms_history.specs.Entries.{Entry}
use Rattle.dms_history.specs.History.{Pending}
use Rattle.dms_history.specs.Pick.{count_at}
use Rattle.dms_running.specs.ByHow.{IsKeptBy, StandsAsToldBy}
use Rattle.dms_running.specs.Plans.{Planned}
use Rattle.dms_running.specs.Restoring.{Rewrites, Rewritten}
use Rattle.dms_restore.specs.Dumped.{dumps_of}
use Rattle.dms_restore.specs.Laying.{SealsSince}
use Rattle.dms_restore.specs.Logging.{LogView, telling}

-- blocks of structure files were written, none that the restore keeps
abbrev pub RewritesBy : Pending → Clock Left → Clock Left → Type 0
RewritesBy p a b = Steps (Rewrites (IsKeptBy p.how p.entries p.point)) a b

-- The restore wrote no block that it keeps, and each block of its point that it is to write stands so.
pub record WritesOver (p : Pending) (old new : Files) : Type 0 where
  pub written : Rewritten (IsKeptBy p.how p.entries p.point) old new
  pub told : (f b : ℕ) → b < count_at p.entries p.point f → StandsAsToldBy p.how (dumps_of old) p.entries p.point new f b

-- these entries were sealed, and nothing waits
abbrev pub SealsEnd : LogView → LogView → List Entry → Type 0
SealsEnd a b es = SealsSince a.end.total b.end a.first es a.files b.files b.clock

-- at each moment since then the first so many of these entries are sealed
abbrev pub LaysWithin : LogView → Clock Left → List Entry → Type 0
LaysWithin a c es = Runs a.clock c (Planned (telling a) es a.files)

-- The restore wrote all that it is to write, and behind that the first so many of these entries are sealed.
pub record SealsOver (p : Pending) (a : LogView) (es : List Entry) (x : Left) : Type 0 where
  pub mid : Files
  pub writes : WritesOver p a.files mid
  pub planned : Planned (telling a) es mid x

-- a stop leaves some of what the restore writes, or all of it with the first so many of these entries
abbrev pub LeavesOver : Pending → LogView → List Entry → Left → Type 0
LeavesOver p a es x = Rewritten (IsKeptBy p.how p.entries p.point) a.files x.files ⊎ SealsOver p a es x

-- The restore wrote all that it is to write, and behind that these entries were sealed. Nothing waits, and a stop now leaves what is read.
pub record EndsOver (p : Pending) (a b : LogView) (es : List Entry) : Type 0 where
  pub mid : Files
  pub writes : WritesOver p a.files mid
  pub sealed : SealsSince a.end.total b.end a.first es mid b.files b.clock
