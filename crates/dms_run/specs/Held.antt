-- Files that stand for a state hold a database.
use Rattle.std.specs.Prelude.{ℕ, ◌≡◌, List, Some}
use Rattle.dms_desc.specs.Shape.{Described}
use Rattle.dms_desc_bytes.specs.Spelling.{spelling}
use Rattle.dms_desc_bytes.specs.WellFormed.{IsWellFormed}
use Rattle.dms_model.specs.Db.{Db}
use Rattle.dms_model.specs.Valid.{IsValid}
use Rattle.dms_site.specs.Files.{Files}
use Rattle.dms_history.specs.EntryEvents.{history_of, live_of}
use Rattle.dms_history.specs.History.{last_point}
use Rattle.dms_history.specs.Places.{IsLive}
use Rattle.dms_history.specs.SchemaAt.{schema_at}
use Rattle.dms_audfile.specs.AuditTrail.{IsFound}
use Rattle.dms_audfile.specs.Sealing.{IsWrittenUpTo}
use Rattle.dms_audfile.specs.TrailEntries.{trail_entries}
use Rattle.dms_audfile.specs.declared.place.EntryPlace.{EntryPlace}
use Rattle.dms_running.specs.Standing.{IsWhole}
use Rattle.dms_running.specs.Points.{points_of, next_in}
use Rattle.dms_restore.specs.Logging.{telling_of}
use Rattle.dms_run.specs.State.{StateOf, HasNext}
use Rattle.dms_run.specs.States.{LivesEndWith}

-- The files hold a database, whose trail is one that scanning finds and a writer keeps. Their last point is live and has this number,
-- the Schema there is that of the well-formed description, and the blocks there spell this database, which is valid.
pub record HoldsLast (files : Files) (n : ℕ) (desc : Described) (db : Db) : Type 0 where
  pub total : ℕ
  pub first : ℕ
  pub places : List EntryPlace
  pub finds : IsFound files first places
  pub tag : ℕ
  pub file : ℕ
  pub count : ℕ
  pub writes : IsWrittenUpTo total tag first file count files
  pub whole : IsWhole (telling_of total first) files
  pub state : LivesEndWith desc (points_of (telling_of total first) files) n db
  pub last : last_point (history_of (trail_entries total first files)) ≡ Some n
  pub lives : IsLive (live_of (trail_entries total first files)) n
  pub described : schema_at (trail_entries total first files) n ≡ Some (spelling desc)
  pub formed : IsWellFormed desc
  pub valid : IsValid desc db

-- Files that hold a database have one next number, which their trail tells.
abbrev pub NextIsOne : Type 0
NextIsOne = (total first next : ℕ) (files : Files) → IsWhole (telling_of total first) files → HasNext files next → next_in (telling_of total first) files ≡ next

-- Files that stand for a state hold a database so.
abbrev pub StatesAreHeld : Type 0
StatesAreHeld = (files : Files) (n : ℕ) (desc : Described) (db : Db) → StateOf files n desc db → HoldsLast files n desc db
