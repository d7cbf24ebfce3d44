-- What the text that a run printed tells of what a stop leaves.
use Rattle.std.specs.Prelude.{ℕ, ◌≡◌, ◌≤◌, List, ◌++◌, length}
use Rattle.dms_desc.specs.Shape.{Described}
use Rattle.dms_model.specs.Db.{Db}
use Rattle.dms_model.specs.Points.{Quiet}
use Rattle.dms_runner.specs.Answers.{script_events}
use Rattle.dms_runner.specs.Events.{RunEvent, quiets_of}
use Rattle.dms_scriptlaws.specs.Told.{told}
use Rattle.dms_model.specs.Valid.{IsValid}
use Rattle.dms_scriptlaws.specs.Truths.{IsRunnable}
use Rattle.dms_run.specs.Stops.{PrintedUpTo, last_quiet_number}

-- Where a stop within these events leaves the first so many of their quiet points, what was printed behind the text of entry tells no number
-- above that of the last point that is left.
abbrev pub TellsNoLater : List RunEvent → Type 0
TellsNoLater events = (n : ℕ) (made rest : List Quiet) (entry printed said : List ℕ) → made ++ rest ≡ quiets_of events → PrintedUpTo entry events (length made) said → said ≡ entry ++ printed
    → told printed ≤ last_quiet_number n made

-- So it is of each script.
abbrev pub ScriptsTellNoLater : Type 0
ScriptsTellNoLater = (desc : Described) → IsRunnable desc → (db : Db) → IsValid desc db → (first : ℕ) (lines : List (List ℕ)) → TellsNoLater (script_events desc db first lines)
