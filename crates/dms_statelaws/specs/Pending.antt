-- A restore that is pending is ended before rows are reconstructed: what a stop meanwhile leaves, as states that files stand for but for these rows.
use Rattle.std.specs.Prelude.{ℕ, ◌<◌, ◌≤◌, ◌≡◌, ◌==◌, Bool, List, ◌++◌, take, Some}
use Rattle.dms_desc.specs.Shape.{Described}
use Rattle.dms_desc_bytes.specs.Spelling.{spelling}
use Rattle.dms_desc_bytes.specs.WellFormed.{IsWellFormed}
use Rattle.dms_model.specs.Db.{Db}
use Rattle.dms_model.specs.Valid.{IsValid}
use Rattle.dms_site.specs.Files.{Files, stored_of}
use Rattle.dms_store.specs.Spelled.{database_in}
use Rattle.dms_history.specs.Events.{Stored}
use Rattle.dms_history.specs.Entries.{Entry}
use Rattle.dms_history.specs.EntryEvents.{history_of, live_of, next_of, Agrees}
use Rattle.dms_history.specs.Here.{here}
use Rattle.dms_history.specs.History.{Pending, last_point}
use Rattle.dms_history.specs.Pick.{blocks_at}
use Rattle.dms_history.specs.Places.{IsLive}
use Rattle.dms_history.specs.SchemaAt.{schema_at}
use Rattle.dms_audfile.specs.ScanLaws.{IsFoundWith}
use Rattle.dms_running.specs.FirstLaws.{as_counted}
use Rattle.dms_running.specs.FromDumps.{DumpsInOrder}
use Rattle.dms_restore.specs.Dumped.{IsDumpFound, dumps_of}
use Rattle.dms_opening.specs.Openings.{ending_entries}
use Rattle.dms_run.specs.State.{StateAt, HasNext}
use Rattle.dms_statelaws.specs.Standing.{NoneLater}

-- a restore is pending over files
pub record HasPending (files : Files) : Type 0 where
  pub entries : List Entry
  pub finds : IsFoundWith entries files
  pub pending : Pending
  pub is : (history_of entries).pending ≡ Some pending

-- With these blocks instead of their own the files stand at their live point n for this database: it is what StateAt says, but for the blocks.
pub record StateWith (files : Files) (blocks : Stored) (n : ℕ) (desc : Described) (db : Db) : Type 0 where
  pub entries : List Entry
  pub finds : IsFoundWith entries files
  pub agrees : Agrees (finds.trail.first == 10001) entries (dumps_of files) blocks
  pub order : DumpsInOrder (IsDumpFound finds.trail.first files) (dumps_of files) (history_of entries).pending
  pub lives : IsLive (live_of entries) n
  pub described : schema_at entries n ≡ Some (spelling desc)
  pub well_formed : IsWellFormed desc
  pub spells : database_in desc (blocks_at (live_of entries) (here (dumps_of files) (history_of entries) blocks) n) ≡ Some db
  pub valid : IsValid desc db

-- With these blocks instead of their own the files stand for the database at their last point n, and for each state that u has at a point; and the next
-- number is that of u.
pub record StandsWith (u : Files) (n : ℕ) (desc : Described) (db : Db) (files : Files) (blocks : Stored) : Type 0 where
  pub state : StateWith files blocks n desc db
  pub last : last_point (history_of state.entries) ≡ Some n
  pub none_later : NoneLater files n
  pub keeps : (d : Described) (m : ℕ) (then : Db) → StateAt u m d then → StateWith files blocks m d then
  pub next : (next : ℕ) → HasNext u next → HasNext files next

-- Behind the entries of u the first so many of those were sealed that end its restore: a whole Schema, and the Control of the restore's point with the next
-- number. The dumps are those of u.
pub record SealsItsEnd (u : Files) (has : HasPending u) (files : Files) : Type 0 where
  pub some : ℕ
  pub schema : List ℕ
  pub counts : List ℕ
  pub finds : IsFoundWith (has.entries ++ take some (ending_entries has.pending.point (next_of has.entries) schema counts)) files
  pub dumps : (g : ℕ) → 20000 < g → g ≤ 30000 → files g ≡ u g

-- A restore is pending over u, and goes first: it was being ended, or was ended, and nothing else was done. With each named block as that restore is to leave it
-- in u, and all others as they hold them, the files stand for the state of u.
pub record GoesFirst (named : ℕ → ℕ → Bool) (u : Files) (n : ℕ) (desc : Described) (db : Db) (files : Files) : Type 0 where
  pub has : HasPending u
  pub sealed : SealsItsEnd u has files
  pub stands : StandsWith u n desc db files (as_counted (dumps_of u) has.entries named (stored_of u) files)
