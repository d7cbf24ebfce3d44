-- A state that the files of a database stand for.
use Rattle.std.specs.Prelude.{ℕ, ◌≡◌, Some}
use Rattle.std.specs.declared.option.Option.{Option}
use Rattle.dms_audfile.specs.TrailEntries.{trail_entries}
use Rattle.dms_desc.specs.Shape.{Described}
use Rattle.dms_desc_bytes.specs.WellFormed.{IsWellFormed}
use Rattle.dms_model.specs.Db.{Db}
use Rattle.dms_opening.specs.Laws.{LastIsDescribed}
use Rattle.dms_opening.specs.Openings.{IsTrailFound}
use Rattle.dms_restore.specs.Logging.{telling_of}
use Rattle.dms_run.specs.State.{StateOf}
use Rattle.dms_run.specs.States.{LivesEndWith}
use Rattle.dms_running.specs.Points.{points_of}
use Rattle.dms_running.specs.Standing.{IsWhole}
use Rattle.dms_site.specs.Files.{Files}

-- A state: the number of the last point, the description, and the database there.
pub record DatabaseState : Type 0 where
  pub point : ℕ
  pub desc : Described
  pub db : Db

-- where a state is told, files stand for it
abbrev pub HoldsTold : Option DatabaseState → Files → Type 0
HoldsTold state files = (s : DatabaseState) → state ≡ Some s → StateOf files s.point s.desc s.db

-- Files that stand for this state hold a database, as an opening asks for it: their trail is found, and their last live point, which has that
-- number and is described, is the last of their points.
pub record HoldsState (files : Files) (s : DatabaseState) : Type 0 where
  pub total : ℕ
  pub first : ℕ
  pub trail : IsTrailFound total first files
  pub whole : IsWhole (telling_of total first) files
  pub described : LastIsDescribed (trail_entries total first files)
  pub state : LivesEndWith s.desc (points_of (telling_of total first) files) s.point s.db
  pub formed : IsWellFormed s.desc

abbrev pub StatesHold : Type 0
StatesHold = (files : Files) (s : DatabaseState) → StateOf files s.point s.desc s.db → HoldsState files s
