-- The making of the database of a load, and the run of its script over it.
use Rattle.std.specs.Prelude.{ℕ, ◌≡◌, ◌⊎◌, None, IsTrue}
use Rattle.dms_creation.specs.Clearing.{AllButDescriptionStay}
use Rattle.dms_creation.specs.Creation.{IsFirstTrail}
use Rattle.dms_creation.specs.FirstEntries.{first_entries}
use Rattle.dms_desc.specs.Shape.{Described}
use Rattle.dms_loadrun.specs.Description.{load_description}
use Rattle.dms_loadrun.specs.Loading.{EndsLoaded, HoldsNone, load_events}
use Rattle.dms_loadrun.specs.Statuses.{IsUnfound}
use Rattle.dms_model.specs.Db.{empty_db}
use Rattle.dms_moments.specs.Moments.{Clock, Now, Runs}
use Rattle.dms_newdb.specs.State.{StandsNew}
use Rattle.dms_run.specs.RunStands.{RunStands}
use Rattle.dms_run.specs.Opens.{DatabaseState}
use Rattle.dms_runtop.specs.Full.{IsFullAt}
use Rattle.dms_guard.specs.Guard.{StaysBeside}
use Rattle.dms_site.specs.declared.site.Site.{Ghosts}
use Rattle.dms_site.specs.Files.{Files, Left, Only}
use Rattle.dms_status.specs.declared.status.LimitKind.TheVariants.{AuditFile}
use Rattle.dms_status.specs.declared.status.Status.{Status}
use Rattle.dms_status.specs.declared.status.Status.TheVariants.{Limit, Ok as Done}

-- A stop while the database is made leaves no database, or the new one, and no other file changed.
pub record LeavesMaking (d : Described) (was files : Files) : Type 0 where
  pub others : AllButDescriptionStay was files
  pub holds : HoldsNone files ⊎ StandsNew 0 d files

abbrev pub Makes : Described → Files → Clock Left → Clock Left → Type 0
Makes d was old new = Runs old new (λ x. Now old x ⊎ LeavesMaking d was x.files)

-- the new database stands, its trail begins with audit file 1, and a stop leaves no other files
pub record IsNew (d : Described) (was files : Files) (clock : Clock Left) : Type 0 where
  pub others : AllButDescriptionStay was files
  pub first : IsFirstTrail 0 d.blocks (first_entries d) files
  pub stands : StandsNew 0 d files
  pub only : Only files clock

-- the state of a new database of the schema of a load
abbrev pub load_state : DatabaseState
load_state = record { point = 0; desc = load_description; db = empty_db }

-- What the run of the script does to a site whose files stand for the new database.
pub record Fills {S : Type 0} (g : Ghosts S) (d : Described) (seed n : ℕ) (old new : S) (status : Status) : Type 0 where
  pub stands : IsTrue g.tells → Runs (g.clock old) (g.clock new) (RunStands (g.files old) d None 0 empty_db 1 (load_events d seed n))
  pub ends : status ≡ Done → IsTrue g.tells → EndsLoaded d seed n (g.files new) × Only (g.files new) (g.clock new)
  pub beside : StaysBeside g old new
  pub found : IsTrue g.tells → IsUnfound status → ⊥
  pub full : (k : ℕ) → status ≡ Limit (AuditFile k) → IsTrue g.tells → (k ≡ 9999) × IsFullAt k (g.files old) (g.files new)
