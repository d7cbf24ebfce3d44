-- Where a run of a script begins, and what it leaves, by the engine before and after it.
use Rattle.std.specs.Prelude.{ℕ, ◌≡◌, ◌<◌, ◌+◌, ◌^◌, List, length}
use Rattle.dms_desc.specs.Shape.{as_described}
use Rattle.dms_model.specs.declared.store.Store.{Ghosts}
use Rattle.dms_model.specs.Db.{Db}
use Rattle.dms_model.specs.Session.{fresh_session}
use Rattle.dms_moments.specs.Moments.{Runs}
use Rattle.dms_runner.specs.Answers.{last_quiet, script_events}
use Rattle.dms_runner.specs.Events.{RunEvent, quiets_of, CrashesFrom, Performs}
use Rattle.dms_storeverbs.specs.declared.engine.Engine.{Engine}
use Rattle.dms_storeverbs.specs.View.{StandsFor, engine_view, view}
use Rattle.dms_run.specs.States.{EndsWith}
use Rattle.dms_run.specs.Stops.{last_quiet_number, RunLeaves}

module _ {St : Type 0} {g : Ghosts St} where
  -- A run begins with this engine: its store tells its points, which end with this database at point n and are all durable; no program
  -- is open, the next number is `first`, and there is room for the numbers of a script.
  pub record BeginsWith (e : Engine St g) (n : ℕ) (db : Db) (first : ℕ) : Type 0 where
    pub stands : StandsFor (view e) (fresh_session db first)
    pub room : first + 1000003 < 2 ^ 64
    pub tells : (engine_view e).tells
    pub state : EndsWith (engine_view e).points n db
    pub durable : (engine_view e).durable ≡ length (engine_view e).points

  -- a stop on the way left what a run leaves
  abbrev pub StopsLeave : Engine St g → Engine St g → ℕ → Db → ℕ → List RunEvent → Type 0
  StopsLeave old new n db first events = Runs (engine_view old).clock (engine_view new).clock (RunLeaves (engine_view old).whole (engine_view old).said (engine_view old).points n db first events)

  -- So it is where a stop on the way lies within these events.
  abbrev pub PartLeaves : Engine St g → Engine St g → Type 0
  PartLeaves old new = (n : ℕ) (db : Db) (first : ℕ) → BeginsWith old n db first → (events : List RunEvent) → Runs (engine_view old).clock (engine_view new).clock (CrashesFrom (engine_view old) events) → StopsLeave old new n db first events

  -- the points end with the last quiet point, or with that of entry
  abbrev pub ReachesEnd : Engine St g → ℕ → Db → ℕ → List RunEvent → Type 0
  ReachesEnd new n db first events = EndsWith (engine_view new).points (last_quiet_number n (quiets_of events)) (last_quiet db (quiets_of events))

  -- So it is where a script was carried out to its end.
  abbrev pub ScriptEnds : Engine St g → Engine St g → Type 0
  ScriptEnds old new = (n : ℕ) (db : Db) (first : ℕ) → BeginsWith old n db first → (lines : List (List ℕ)) → Performs (engine_view old) (engine_view new) (script_events (as_described old.desc) db first lines)
      → ReachesEnd new n db first (script_events (as_described old.desc) db first lines)
