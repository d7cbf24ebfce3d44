-- A run of a script over a database that was opened.
use Rattle.std.specs.Prelude.{ℕ, ◌≡◌, ◌⊎◌, ◌+◌, ◌<◌, ◌^◌, List, [], ◌∷◌, ◌++◌, length, map, Some, None, IsTrue, if◌then◌else◌}
use Rattle.std.specs.declared.option.Option.{Option}
use Rattle.dms_moments.specs.Moments.{Clock, Runs}
use Rattle.dms_block.specs.Texts.{Prints}
use Rattle.dms_desc.specs.Shape.{Described}
use Rattle.dms_feed.specs.Lines.{raw_lines}
use Rattle.dms_model.specs.Db.{Db}
use Rattle.dms_model.specs.Session.{end_session}
use Rattle.dms_model.specs.Valid.{IsValid}
use Rattle.dms_site.specs.declared.site.Site.{Ghosts}
use Rattle.dms_site.specs.Files.{Files, Left, Only}
use Rattle.dms_running.specs.Telling.{Telling}
use Rattle.dms_running.specs.Standing.{IsWhole}
use Rattle.dms_running.specs.Points.{DescribedPoint, points_of, next_in}
use Rattle.dms_restore.specs.Logging.{LogGrows, LogStays, telling_of, telling, points, waits}
use Rattle.dms_restore.specs.Views.{view_of}
use Rattle.dms_wal.specs.declared.running.Running.{Running}
use Rattle.dms_wal.specs.Closing.{LeavesUntil}
use Rattle.dms_wal.specs.Database.{running_held}
use Rattle.dms_wal.specs.Growing.{over_site}
use Rattle.dms_wal.specs.Lifting.{lift_clock}
use Rattle.dms_runtop.specs.Bound.{AnswersPart}
use Rattle.dms_store.specs.Lifted.{point_of}
use Rattle.dms_store.specs.Spelled.{database_in}
use Rattle.dms_runner.specs.Answers.{answers_quiets, answers_text, left_by, script_events, script_run}
use Rattle.dms_runner.specs.Events.{IsFullAtEvent, RunEvent, pause}
use Rattle.dms_runner.specs.Running.{AnswersWhole, AreExactly, AreOfFront, CutInput, KeepsFront, PassesBytes, PassesLines, PassesWaiting}
use Rattle.dms_run.specs.Files.{points_seen, RunLeavesFiles}
use Rattle.dms_run.specs.States.{LivesEndWith}
use Rattle.dms_run.specs.Stops.{last_quiet_number}
use Rattle.dms_status.specs.declared.status.LimitKind.{LimitKind}
use Rattle.dms_status.specs.declared.status.LimitKind.TheVariants.{AuditFile, Lines, Bytes, Held}
use Rattle.dms_status.specs.declared.status.Status.{Status}
use Rattle.dms_status.specs.declared.status.Status.TheVariants.{Ok, Limit, InputFault, Damaged}

-- what a read of a site gives, what a stop leaves of it, and the text so far, where it is told
pub record SiteSeen : Type 1 where
  pub files : Files
  pub clock : Clock Left
  pub said : Option (List ℕ)

abbrev pub seen_site : {S : Type 0} → Ghosts S → S → SiteSeen
seen_site g site = record { files = g.files site; clock = g.clock site; said = if g.tells_said then Some (g.said site) else None }

-- Files hold a database, whose last point has this number, and whose blocks there spell this database. This is their next number, and a stop leaves
-- no other files.
pub record FilesEndWith (t : Telling) (desc : Described) (n : ℕ) (db : Db) (next : ℕ) (s : SiteSeen) : Type 0 where
  pub whole : IsWhole t s.files
  pub state : LivesEndWith desc (points_of t s.files) n db
  pub next_is : next_in t s.files ≡ next
  pub only : Only s.files s.clock

-- Nothing was carried out and nothing printed, as at the opening; or the text of the whole script was, as before the close.
abbrev pub IsAtEnds : Described → Db → ℕ → List (List ℕ) → List RunEvent → Option (List ℕ) → Option (List ℕ) → Type 0
IsAtEnds desc db first lines events before after =
    ((events ≡ []) × Prints before after []) ⊎ ((events ≡ script_events desc db first lines) × Prints before after (answers_text desc db first lines))

-- The script passes this limit. Of lines, bytes and held lines: exactly what the whole lines before that place answer was printed, and nothing else was
-- done but the first try of a line too many to hold, where it has one. Of an audit file: FILES of the description is full at an event; or 9,999 is, there,
-- or in the opening or the close.
abbrev pub PassesScript : LimitKind → Described → Db → ℕ → List (List ℕ) → ℕ → List RunEvent → Option (List ℕ) → Option (List ℕ) → Type 0
PassesScript (AuditFile f) desc db first lines n events before after = IsFullAtEvent desc.files f before after events ⊎ ((f ≡ 9999) × IsAtEnds desc db first lines events before after)
PassesScript Lines desc db first lines n events before after = PassesLines desc db first lines before after × AreExactly desc db first lines n events 1000000
PassesScript Bytes desc db first lines n events before after = (p : PassesBytes desc db first lines before after) × AreExactly desc db first lines n events p.n
PassesScript Held desc db first lines n events before after = (p : PassesWaiting desc db first lines before after) × AreExactly desc db first lines n events (p.n + 1)

-- Taking from the input failed: exactly what the whole lines that were taken answer was printed, and nothing else was done.
abbrev pub CutsScript : Described → Db → ℕ → List ℕ → Option (List ℕ) → ℕ → List RunEvent → Option (List ℕ) → Option (List ℕ) → Type 0
CutsScript desc db first all left n events before after = (p : CutInput desc db first all left before after) × AreExactly desc db first (raw_lines all) n events p.n

-- What was carried out of a script.
pub record CarriedOut (desc : Described) (db : Db) (next : ℕ) (script : List (List ℕ)) : Type 0 where
  -- so many lines at most, which keep the limits of lines and bytes, and no line after them
  pub lines : ℕ
  pub front : KeepsFront script lines
  -- these events are theirs, or, where they are all, those of the script to its end: nothing else was done
  pub events : List RunEvent
  pub are : AreOfFront desc db next script lines events

-- What a run of the script that an input has does over a database, whose next number is this one. Its trail has this telling, so the files were before
-- it and after it, so much was printed, so much of the input is left, and so it ended. An opening before it and a close take at most so many entries.
pub record ScriptDoes (most : ℕ) (t : Telling) (desc : Described) (db : Db) (next : ℕ) (all : List ℕ) (was now : Files) (said said' : Option (List ℕ)) (left' : Option (List ℕ)) (status : Status) : Type 0 where
  -- no more was carried out than the first so many lines, or the whole script to its end
  pub carried : CarriedOut desc db next (raw_lines all)
  -- at status 0 that is the whole script, which keeps the limits, and exactly its answers were printed
  pub whole : status ≡ Ok → carried.events ≡ script_events desc db next (raw_lines all)
  pub answers : status ≡ Ok → AnswersWhole desc db next (raw_lines all) said said'
  -- at each status a part of it was answered: whole answers were printed, but at 10, and the audit grew by no more than they and one call more take
  pub part : AnswersPart most t desc carried.events was now said said' status
  -- at status 8 the script passes that limit, and none before
  pub limit : (k : LimitKind) → status ≡ Limit k → PassesScript k desc db next (raw_lines all) carried.lines carried.events said said'
  -- at status 6 the input failed after so many whole lines
  pub input_cut : status ≡ InputFault → CutsScript desc db next all left' carried.lines carried.events said said'
  -- status 9 doesn't come of a structure file
  pub undamaged : (f k : ℕ) → status ≡ Damaged f k → 30000 < f → ⊥

-- So the files of a database end that at point n was this one with this next number, where a script with these lines was carried out.
abbrev pub ReachesFiles : Telling → Described → ℕ → Db → ℕ → List (List ℕ) → SiteSeen → Type 0
ReachesFiles t desc n db next lines s =
    FilesEndWith t desc (last_quiet_number n (answers_quiets desc db next lines)) (left_by desc db next lines) (end_session (script_run desc db next lines).going.session).next s

-- So it does over a database that at point n is db, where the site was seen before it and after it so. These were the points before it.
pub record ScriptRuns (most : ℕ) (t : Telling) (desc : Described) (ps : List DescribedPoint) (n : ℕ) (db : Db) (next : ℕ) (all : List ℕ) (a b : SiteSeen) (left' : Option (List ℕ)) (status : Status) : Type 0 where
  pub does : ScriptDoes most t desc db next all a.files b.files a.said b.said left' status
  -- a stop at each moment, also before the first and after the last of them, left what a run of its events leaves: the database of one quiet point, none
  -- before those that syncpoints made durable before what was printed last, and each point as it was
  pub every_moment : Runs a.clock b.clock (RunLeavesFiles t desc a.said ps n db next (does.carried.events ++ pause ∷ []))
  -- at status 0 the files end with the last quiet point, or with the point of entry, and the next number is that of the session
  pub at_ok : status ≡ Ok → ReachesFiles t desc n db next (raw_lines all) b

module _ {S : Type 0} (g : Ghosts S) where
  -- A run of a script begins with this database: its site tells its files, its points are these, which end with database db at point n and are all
  -- durable, its blocks spell that database, which is valid, there is room for the numbers of a script, and its audit may go on up to file FILES. Nothing waits, control
  -- points follow the syncs that the description says, and it wasn't used yet.
  pub record BeginsAt (r : Running S) (total first : ℕ) (ps : List DescribedPoint) (desc : Described) (n : ℕ) (db : Db) : Type 0 where
    pub tells : IsTrue g.tells
    pub total_is : r.log.end.total ≡ total
    pub first_is : r.log.first ≡ first
    pub limit_is : r.log.end.limit ≡ desc.files
    pub points_are : map (point_of desc) (running_held g r).points ≡ points_seen desc ps
    pub state : LivesEndWith desc ps n db
    pub spells : database_in desc (running_held g r).content ≡ Some db
    pub valid : IsValid desc db
    pub durable : (running_held g r).durable ≡ length (running_held g r).points
    pub room : r.next + 1000003 < 2 ^ 64
    pub nothing : waits r.log.end ≡ []
    pub every : r.every ≡ desc.controlpoint
    pub unused : (r.spent ≡ 0) × (r.syncs ≡ 0) × (r.outs ≡ 0)

  -- a run of the script over this database, which ended with this status and this site
  abbrev pub RunsOver : Running S → Described → Option (List ℕ) → Option (List ℕ) → Status → S → Type 0
  RunsOver r desc left left' status site =
      (total first : ℕ) (ps : List DescribedPoint) (n : ℕ) (db : Db) (all : List ℕ) → BeginsAt r total first ps desc n db → left ≡ Some all
      → ScriptRuns 18 (telling_of total first) desc ps n db r.next all (seen_site g r.log.site) (seen_site g site) left' status

  -- the trail is the one of before and blocks behind it, each of which is in its grammar and holds an entry, now and at each stop
  abbrev pub GrowsOver : Running S → S → Type 0
  GrowsOver r site = IsTrue g.tells → LogStays (view_of g r.log) (over_site g (view_of g r.log) site)

  -- The database was closed: at status 0 the files hold it, with all its points and its next number, and a stop leaves no other files. Until then each
  -- stop left the first so many of its points, at least the durable ones, and no other text. Whatever failed the audit took at most 18 entries, and they
  -- stand in blocks behind the old ones.
  pub record ClosesOver (r : Running S) (status : Status) (site : S) : Type 0 where
    pub leaves : LeavesUntil (running_held g r) (lift_clock (telling (view_of g r.log)) (g.clock site))
    pub points_are : status ≡ Ok → IsTrue g.tells → points_of (telling (view_of g r.log)) (g.files site) ≡ points (view_of g r.log)
    pub whole : status ≡ Ok → IsTrue g.tells → IsWhole (telling (view_of g r.log)) (g.files site)
    pub next_is : status ≡ Ok → IsTrue g.tells → next_in (telling (view_of g r.log)) (g.files site) ≡ r.next
    pub only : status ≡ Ok → IsTrue g.tells → Only (g.files site) (g.clock site)
    pub grown : IsTrue g.tells → LogGrows 18 (view_of g r.log) (over_site g (view_of g r.log) site)
