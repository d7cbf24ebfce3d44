-- What stops leave behind the end of a run.
use Rattle.std.specs.Prelude.{ℕ, ◌≡◌, ◌≤◌, List, false, length}
use Rattle.dms_desc.specs.Shape.{Described, as_described}
use Rattle.dms_model.specs.declared.store.Store.{Ghosts}
use Rattle.dms_model.specs.Db.{Db}
use Rattle.dms_model.specs.Points.{Stop, LeavesPrefix, StopTextIs}
use Rattle.dms_runner.specs.Answers.{script_events, script_run}
use Rattle.dms_runner.specs.Events.{RunEvent, Performs}
use Rattle.dms_runner.specs.Running.{bytes_of}
use Rattle.dms_storeverbs.specs.declared.engine.Engine.{Engine}
use Rattle.dms_storeverbs.specs.View.{engine_view}
use Rattle.dms_run.specs.Starting.{BeginsWith}
use Rattle.dms_run.specs.Stops.{RunLeaves}

-- A stop that leaves the first so many of the points of the end, at least the durable ones, and the whole text leaves what a run leaves: so
-- it does behind the last line too, while nothing is said and no point is made.
abbrev pub EndsLeave : {St : Type 0} {g : Ghosts St} → Engine St g → Engine St g → ℕ → Db → ℕ → List RunEvent → Type 0
EndsLeave old new n db first events = (stop : Stop) → LeavesPrefix (engine_view new).whole (engine_view new).durable (engine_view new).points (engine_view new).next stop → StopTextIs (engine_view new).said stop
    → RunLeaves (engine_view old).whole (engine_view old).said (engine_view old).points n db first events stop

-- So it is where a script was carried out to its end.
abbrev pub ScriptCloses : {St : Type 0} {g : Ghosts St} → Engine St g → Engine St g → Type 0
ScriptCloses old new = (n : ℕ) (db : Db) (first : ℕ) → BeginsWith old n db first → (lines : List (List ℕ)) → Performs (engine_view old) (engine_view new) (script_events (as_described old.desc) db first lines)
    → EndsLeave old new n db first (script_events (as_described old.desc) db first lines)

-- The script keeps the limits: 1,000,000 lines, 2,147,483,648 bytes, and no line is one too many to hold.
pub record KeepsLimits (desc : Described) (db : Db) (first : ℕ) (lines : List (List ℕ)) : Type 0 where
  pub few : length lines ≤ 1000000
  pub short : bytes_of lines ≤ 2147483648
  pub room : (script_run desc db first lines).full ≡ false
