-- The state that files stand for.
use Rattle.std.specs.Prelude.{ℕ, ◌≡◌, ◌==◌, List, Some}
use Rattle.dms_desc.specs.Shape.{Described}
use Rattle.dms_desc_bytes.specs.Spelling.{spelling}
use Rattle.dms_desc_bytes.specs.WellFormed.{IsWellFormed}
use Rattle.dms_site.specs.Files.{Files, stored_of}
use Rattle.dms_model.specs.Db.{Db}
use Rattle.dms_model.specs.Valid.{IsValid}
use Rattle.dms_store.specs.Spelled.{database_in}
use Rattle.dms_history.specs.Entries.{Entry}
use Rattle.dms_history.specs.EntryEvents.{history_of, live_of, next_of, Agrees}
use Rattle.dms_history.specs.History.{last_point}
use Rattle.dms_history.specs.Here.{here}
use Rattle.dms_history.specs.Pick.{blocks_at}
use Rattle.dms_history.specs.Places.{IsLive}
use Rattle.dms_history.specs.SchemaAt.{schema_at}
use Rattle.dms_audfile.specs.Header.{tag_said}
use Rattle.dms_audfile.specs.ScanLaws.{IsFoundWith}
use Rattle.dms_running.specs.FromDumps.{DumpsInOrder}
use Rattle.dms_restore.specs.Dumped.{IsDumpFound, dumps_of}

-- At their live point n the files stand for this database under this description: scanning refuses nothing, the entries agree with
-- the dumps and the structure files, the description is that of the last whole live Schema before the place of n, and it is
-- well-formed, the blocks at n spell the database, and that is valid. Where a restore by a dump is pending, that dump is in order.
pub record StateAt (files : Files) (n : ℕ) (desc : Described) (db : Db) : Type 0 where
  pub entries : List Entry
  pub finds : IsFoundWith entries files
  pub agrees : Agrees (finds.trail.first == 10001) entries (dumps_of files) (stored_of files)
  pub order : DumpsInOrder (IsDumpFound finds.trail.first files) (dumps_of files) (history_of entries).pending
  pub lives : IsLive (live_of entries) n
  pub described : schema_at entries n ≡ Some (spelling desc)
  pub well_formed : IsWellFormed desc
  pub spells : database_in desc (blocks_at (live_of entries) (here (dumps_of files) (history_of entries) (stored_of files)) n) ≡ Some db
  pub valid : IsValid desc db

-- The files stand for the database at their last point.
pub record StateOf (files : Files) (n : ℕ) (desc : Described) (db : Db) : Type 0 where
  pub at_point : StateAt files n desc db
  pub last : last_point (history_of at_point.entries) ≡ Some n

-- the number of the next quiet point
pub record HasNext (files : Files) (next : ℕ) : Type 0 where
  pub entries : List Entry
  pub finds : IsFoundWith entries files
  pub is : next_of entries ≡ next

-- the tag of the trail
pub record HasTag (files : Files) (tag : ℕ) : Type 0 where
  pub entries : List Entry
  pub finds : IsFoundWith entries files
  pub is : tag_said (files finds.trail.first) ≡ tag
