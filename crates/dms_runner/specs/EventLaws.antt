-- What a stop within events leaves, told of all of them.
use Rattle.std.specs.Prelude.{ℕ, ⊤, ◌≡◌, ◌≤◌, ◌<◌, ◌+◌, ◌-◌, ◌^◌, List, ◌∷◌, ◌++◌, length, take, slice_get, Some}
use Rattle.std.specs.declared.option.Option.{Option}
use Rattle.std.specs.FinMap.{len}
use Rattle.dms_desc.specs.Shape.{Described}
use Rattle.dms_desc_bytes.specs.WellFormed.{IsWellFormed}
use Rattle.dms_model.specs.Db.{Db}
use Rattle.dms_model.specs.Points.{StopFiles, Point, Stop}
use Rattle.dms_model.specs.Session.{end_session}
use Rattle.dms_storeverbs.specs.View.{LeavesQuiets}
use Rattle.dms_runner.specs.Answers.{script_events, script_run, left_by}
use Rattle.dms_runner.specs.Events.{RunEvent, text_of, quiets_of, blocks_begun, blocks_of, syncs_of, backs_of, CrashesWithin}
use Rattle.dms_runner.specs.Running.{KeepsFront, AreOfFront}

-- these laws ask nothing of the files
abbrev pub any : StopFiles → Type 0
any files = ⊤

-- the quiet points are the first ones of those at first and all that are made behind them, and none that was durable at first is
-- missing; where all were durable at first the next number hasn't fallen, and it never rose by more than the points that are made; the text is a
-- prefix of all that is said
pub record LeavesOfRun (said : Option (List ℕ)) (points : List Point) (durable next : ℕ) (events : List RunEvent) (stop : Stop) : Type 0 where
  pub left : LeavesQuiets any durable points next (quiets_of events) stop
  pub not_fallen : durable ≡ length points → next ≤ stop.next
  pub not_risen : stop.next ≤ next + length (quiets_of events)
  pub text : (t : List ℕ) → said ≡ Some t → (n : ℕ) × (stop.said ≡ t ++ take n (text_of events))

abbrev pub WholeLaw : Type 0
WholeLaw = (said : Option (List ℕ)) (points : List Point) (durable next : ℕ) (events : List RunEvent) (stop : Stop) → durable ≤ length points → CrashesWithin any said points durable next events stop → LeavesOfRun said points durable next events stop

-- where a byte was said behind a call that took a syncpoint, at least as many quiet points are left as there were when the call
-- was over; with WholeLaw they are those
abbrev pub SyncLaw : Type 0
SyncLaw = (said : Option (List ℕ)) (points : List Point) (durable next : ℕ) (events : List RunEvent) (stop : Stop) → durable ≤ length points → CrashesWithin any said points durable next events stop
    → (before : List RunEvent) (call : RunEvent) (rest : List RunEvent) (n : ℕ) → before ++ call ∷ rest ≡ events → call.sync ≡ Some n
    → (t : List ℕ) → said ≡ Some t → length t + length (text_of before) + length call.text < length stop.said
    → length points + length (quiets_of before) + length call.quiets ≤ length stop.points

-- where more quiet points are left than there were before an event, all that was to be said before that event is printed
abbrev pub PointLaw : Type 0
PointLaw = (said : Option (List ℕ)) (points : List Point) (durable next : ℕ) (events : List RunEvent) (stop : Stop) → CrashesWithin any said points durable next events stop
    → (before : List RunEvent) (at : RunEvent) (rest : List RunEvent) → before ++ at ∷ rest ≡ events → length points + length (quiets_of before) < length stop.points
    → (t : List ℕ) → said ≡ Some t → length t + length (text_of before) ≤ length stop.said

-- Each line makes one quiet point at most: the first number and the count of lines bound the next number at the end.
abbrev pub NextLaw : Type 0
NextLaw = (desc : Described) (db : Db) (first : ℕ) (lines : List (List ℕ)) → (end_session (script_run desc db first lines).going.session).next ≤ first + length lines

-- at the end of a script, where the database has gone back to the last quiet point if a program was in transaction state, it is
-- the one that the script leaves
abbrev pub LeftLaw : Type 0
LeftLaw = (desc : Described) (db : Db) (first : ℕ) (lines : List (List ℕ)) → (end_session (script_run desc db first lines).going.session).db ≡ left_by desc db first lines

-- What a script does begins with what is carried out of it.
abbrev pub FrontLaw : Type 0
FrontLaw = (desc : Described) (db : Db) (first : ℕ) (lines : List (List ℕ)) (n : ℕ) (events : List RunEvent) → AreOfFront desc db first lines n events → (rest : List RunEvent) × (script_events desc db first lines ≡ events ++ rest)

-- The counts of 64 bits can tell what the first k of these events do, and the call of the next one.
pub record AreCounted (desc : Described) (events : List RunEvent) (k : ℕ) : Type 0 where
  pub blocks : blocks_of desc (take k events) + blocks_begun desc (slice_get events k) < 2 ^ 64 - 1
  pub syncs : syncs_of (take k events) + 1 < 2 ^ 64 - 1
  pub backs : backs_of (take k events) + 1 < 2 ^ 64 - 1

-- a database has so many records at most, and so many entries of manual subsets
pub record HasSize (most : ℕ) (db : Db) : Type 0 where
  pub records : len db.records ≤ most
  pub entries : length db.entries ≤ most

-- So it is of what the first so many lines of a script do, under a well-formed description, to a database with 1,000,000 records of each of 200 data sets
-- at most, and as many entries of manual subsets.
abbrev pub CountedLaw : Type 0
CountedLaw = (desc : Described) → IsWellFormed desc → (db : Db) → HasSize 200000000 db → (first : ℕ) (lines : List (List ℕ)) (n : ℕ) (events : List RunEvent)
    → KeepsFront lines n → AreOfFront desc db first lines n events → (k : ℕ) → AreCounted desc events k
