-- What a stop within a run leaves, in the words of the database.
use Rattle.std.specs.Prelude.{ℕ, ◌≡◌, ◌≤◌, ◌+◌, ◌⊎◌, List, [], ◌∷◌, ◌++◌, length, map, take, Some}
use Rattle.std.specs.List.{AllByRecursion}
use Rattle.std.specs.declared.option.Option.{Option}
use Rattle.dms_model.specs.Db.{Db}
use Rattle.dms_model.specs.Points.{StopFiles, Point, Quiet, Stop, told_point, known_point}
use Rattle.dms_runner.specs.Answers.{last_quiet}
use Rattle.dms_runner.specs.Events.{RunEvent, text_of, quiets_of, durable_after}
use Rattle.dms_run.specs.States.{EndsWith, HasState}

-- the number of the last of these quiet points, or this one where there is none
abbrev pub last_quiet_number : ℕ → List Quiet → ℕ
last_quiet_number n [] = n
last_quiet_number n (q ∷ qs) = last_quiet_number q.0 qs

-- Behind the text of entry stands what the events before one of these said, and a prefix of what that one says. As many quiet points are
-- left as the syncpoints before it made durable, or more: so a SYNCPOINT that was printed has its quiet point. No more are left than those of the
-- events before and of this one: so a call whose answer isn't printed is the only one that may be ahead.
pub record PrintedUpTo (entry : List ℕ) (events : List RunEvent) (left : ℕ) (said : List ℕ) : Type 0 where
  pub before : List RunEvent
  pub at : RunEvent
  pub rest : List RunEvent
  pub all : before ++ at ∷ rest ≡ events
  pub printed : ℕ
  pub said_is : said ≡ entry ++ (text_of before ++ take printed at.text)
  pub enough : durable_after 0 0 before ≤ left
  pub few : left ≤ length (quiets_of before) + length at.quiets

-- What a stop within a run leaves. At entry the points ended with database db at point n, and next was the next number; the run does
-- these events. The stop leaves the points of entry as they were and behind them exactly the first so many of the quiet points, each with its
-- own database, at least those of the syncpoints before what was printed last. The next number rose by one at least for each of these quiet
-- points, and by one at most for each of all that the events make; and the files are whole as the store means it.
pub record RunLeaves (whole : StopFiles → Type 0) (entry : Option (List ℕ)) (points : List Point) (n : ℕ) (db : Db) (next : ℕ) (events : List RunEvent) (stop : Stop) : Type 0 where
  pub made : List Quiet
  pub rest : List Quiet
  pub front_of : made ++ rest ≡ quiets_of events
  pub state : EndsWith stop.points (last_quiet_number n made) (last_quiet db made)
  pub more : List Point
  pub kept : stop.points ≡ points ++ more
  pub are : map told_point more ≡ map known_point made
  pub each : AllByRecursion (HasState stop.points) made
  pub next_is : next + length made ≤ stop.next
  pub not_risen : stop.next ≤ next + length (quiets_of events)
  pub text : (t : List ℕ) → entry ≡ Some t → PrintedUpTo t events (length made) stop.said
  pub files : whole stop.files

-- ---- the same, word by word

-- one of these quiet points
abbrev pub IsOneOf : Quiet → List Quiet → Type 0
IsOneOf p [] = ⊥
IsOneOf p (q ∷ qs) = (p ≡ q) ⊎ IsOneOf p qs

-- The points end with the database of entry, or with that of one of the quiet points. Each point of entry is there, with its number and its
-- database.
pub record RunAllows (points : List Point) (n : ℕ) (db : Db) (quiets : List Quiet) (stop : Stop) : Type 0 where
  pub point : ℕ
  pub now : Db
  pub state : EndsWith stop.points point now
  pub recovered : ((point ≡ n) × (now ≡ db)) ⊎ IsOneOf (point, now) quiets
  pub keeps : (q : Quiet) → HasState points q → HasState stop.points q
