-- What a load leaves.
use Rattle.std.specs.Prelude.{ℕ, ◌≢◌, ◌⊎◌, List, [], None, slice_index}
use Rattle.dms_creation.specs.Clearing.{AllButDescriptionStay}
use Rattle.dms_desc.specs.Shape.{Described}
use Rattle.dms_descfile.specs.DescriptionFile.{IsUnsealed}
use Rattle.dms_loadcount.specs.Answers.{load_lines, load_quiets}
use Rattle.dms_model.specs.Db.{empty_db}
use Rattle.dms_moments.specs.Moments.{Clock, Now, Runs}
use Rattle.dms_newdb.specs.State.{StandsNew}
use Rattle.dms_runner.specs.Answers.{script_events}
use Rattle.dms_runner.specs.Events.{RunEvent}
use Rattle.dms_run.specs.RunStands.{LastStands, RunStands}
use Rattle.dms_site.specs.Files.{Files, Left}

-- no database: file 1 is no sealed description, or the gate of the database isn't open in it
abbrev pub HoldsNone : Files → Type 0
HoldsNone files = IsUnsealed (files 1) ⊎ (slice_index (files 1) 1 ≢ 1)

-- the events of the script over the empty database
abbrev pub load_events : Described → ℕ → ℕ → List RunEvent
load_events d seed n = script_events d empty_db 1 (load_lines seed n)

-- The script was begun over a new database. The files stand for that one, or for the database of one quiet point of the script.
pub record StandsWithin (d : Described) (seed n : ℕ) (files : Files) : Type 0 where
  pub made : Files
  pub new : StandsNew 0 d made
  pub stands : RunStands made d None 0 empty_db 1 (load_events d seed n) (record { files = files; said = [] })

-- What a stop within a load leaves of these files: none has changed but the description file, audit files, dumps and structure files, and there is no
-- database, or the new one at point 0, or one that the script left.
pub record LeavesLoad (d : Described) (seed n : ℕ) (was files : Files) : Type 0 where
  pub others : AllButDescriptionStay was files
  pub holds : HoldsNone files ⊎ (StandsNew 0 d files ⊎ StandsWithin d seed n files)

-- Each outcome that a stop on the way left is one that it could leave at the old moment, or such a one.
abbrev pub Loads : Described → ℕ → ℕ → Files → Clock Left → Clock Left → Type 0
Loads d seed n was old new = Runs old new (λ x. Now old x ⊎ LeavesLoad d seed n was x.files)

-- The files stand for the database of the last quiet point of the script, or for the empty one where there is none.
abbrev pub EndsLoaded : Described → ℕ → ℕ → Files → Type 0
EndsLoaded d seed n files = LastStands files d 0 empty_db 1 (load_quiets d seed n)
