-- What a stop within a run leaves, as states that files stand for.
use Rattle.std.specs.Prelude.{ℕ, ◌≡◌, ◌≤◌, ◌+◌, ◌⊎◌, List, ◌++◌, length, take, Some}
use Rattle.std.specs.declared.option.Option.{Option}
use Rattle.dms_desc.specs.Shape.{Described}
use Rattle.dms_desc_bytes.specs.WellFormed.{IsWellFormed}
use Rattle.dms_model.specs.Db.{Db}
use Rattle.dms_model.specs.Points.{Quiet}
use Rattle.dms_model.specs.Session.{end_session}
use Rattle.dms_runner.specs.Answers.{answers_quiets, last_quiet, left_by, script_events, script_run}
use Rattle.dms_runner.specs.Events.{RunEvent, quiets_of}
use Rattle.dms_running.specs.Standing.{IsWhole}
use Rattle.dms_running.specs.Points.{points_of, next_in}
use Rattle.dms_site.specs.Files.{Files, Left}
use Rattle.dms_restore.specs.Logging.{telling_of}
use Rattle.dms_scriptlaws.specs.Told.{told}
use Rattle.dms_model.specs.Valid.{IsValid}
use Rattle.dms_run.specs.Files.{RunLeavesFiles}
use Rattle.dms_run.specs.SamePoint.{LivesIn, SamePoint}
use Rattle.dms_run.specs.State.{StateAt, StateOf, HasNext}
use Rattle.dms_run.specs.States.{LivesEndWith}
use Rattle.dms_run.specs.Stops.{IsOneOf, PrintedUpTo, last_quiet_number}
use Rattle.dms_run.specs.Held.{HoldsLast}

-- The text is that of entry, and behind it what the events before one of these said, and a prefix of what that one says. The last point is that of a quiet
-- point that those events made, or that one: so no more than one call is ahead of the text.
pub record PrintsAlong (entry : List ℕ) (events : List RunEvent) (n point : ℕ) (said : List ℕ) : Type 0 where
  pub made : ℕ
  pub point_is : point ≡ last_quiet_number n (take made (quiets_of events))
  pub printed : PrintedUpTo entry events made said

-- The files stand for the database of entry at point n, or for that of one of the quiet points of these events, at a point that isn't below what the text tells
-- that was printed behind the text of entry: so another run may begin with it. Each point of the files of entry is there, as it was,
-- and each of the quiet points that isn't above the last point has its own state. The next number hasn't fallen, and has risen by one at most
-- for each of the quiet points: so where there was room for the numbers of this run and of the runs after it, the number that is left has room for those.
pub record RunStands (files : Files) (desc : Described) (entry : Option (List ℕ)) (n : ℕ) (db : Db) (next : ℕ) (events : List RunEvent) (x : Left) : Type 0 where
  pub point : ℕ
  pub now : Db
  pub state : StateOf x.files point desc now
  pub recovered : ((point ≡ n) × (now ≡ db)) ⊎ IsOneOf (point, now) (quiets_of events)
  pub no_earlier : (text printed : List ℕ) → entry ≡ Some text → x.said ≡ text ++ printed → told printed ≤ point
  pub text : (t : List ℕ) → entry ≡ Some t → PrintsAlong t events n point x.said
  pub keeps : (m : ℕ) → LivesIn files m → SamePoint files x.files m
  pub each : (q : Quiet) → IsOneOf q (quiets_of events) → q.0 ≤ point → StateAt x.files q.0 desc q.1
  pub next_left : ℕ
  pub has_next : HasNext x.files next_left
  pub not_fallen : next ≤ next_left
  pub not_risen : next_left ≤ next + length (quiets_of events)

-- The files stand for the database of the last of the quiet points, or for that of entry at point n where there is none, and the next number follows those
-- of the quiet points.
pub record LastStands (files : Files) (desc : Described) (n : ℕ) (db : Db) (next : ℕ) (quiets : List Quiet) : Type 0 where
  pub state : StateOf files (last_quiet_number n quiets) desc (last_quiet db quiets)
  pub has_next : HasNext files (next + length quiets)

-- So it is of files that hold what a script leaves that was carried out.
abbrev pub EndsStand : Type 0
EndsStand = (total first : ℕ) (files : Files) (desc : Described) → IsWellFormed desc → (n : ℕ) (db : Db) → IsValid desc db → (next : ℕ) (lines : List (List ℕ)) → IsWhole (telling_of total first) files
    → LivesEndWith desc (points_of (telling_of total first) files) (last_quiet_number n (answers_quiets desc db next lines)) (left_by desc db next lines)
    → next_in (telling_of total first) files ≡ (end_session (script_run desc db next lines).going.session).next → LastStands files desc n db next (answers_quiets desc db next lines)

-- So it is of the files that a stop within the run of a script leaves, which began with files that stand for this state and have this next number.
abbrev pub StopsStand : Type 0
StopsStand = (files : Files) (n : ℕ) (desc : Described) (db : Db) (h : HoldsLast files n desc db) (next : ℕ) → HasNext files next → (entry : Option (List ℕ)) (lines : List (List ℕ)) (x : Left)
    → RunLeavesFiles (telling_of h.total h.first) desc entry (points_of (telling_of h.total h.first) files) n db next (script_events desc db next lines) x → RunStands files desc entry n db next (script_events desc db next lines) x
