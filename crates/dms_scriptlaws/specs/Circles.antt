-- Waits and DEADLOCK in a script.
use Rattle.std.specs.Prelude.{ℕ, List}
use Rattle.dms_desc.specs.Shape.{Described}
use Rattle.dms_laws.specs.Waiting.{JudgesWaits}
use Rattle.dms_locks.specs.Waits.{HasNoCircle}
use Rattle.dms_model.specs.Db.{Db}
use Rattle.dms_model.specs.declared.verb.Verb.{Verb}
use Rattle.dms_model.specs.Session.{Session, step}
use Rattle.dms_runner.specs.Answers.{script_run}

-- the session behind the lines of a script
abbrev pub session_behind : Described → Db → ℕ → List (List ℕ) → Session
session_behind desc db first lines = (script_run desc db first lines).going.session

-- Behind the lines of a script no program waits for itself, along however many waits. What a program asks next waits only where that makes no circle of
-- waits, and is answered DEADLOCK only where it would make one.
pub record WaitsInNoCircle (desc : Described) (db : Db) (first : ℕ) (lines : List (List ℕ)) : Type 0 where
  pub none : HasNoCircle (session_behind desc db first lines).waits
  pub next : (name : List ℕ) (verb : Verb) → JudgesWaits (session_behind desc db first lines) name (step desc (session_behind desc db first lines) name verb)
