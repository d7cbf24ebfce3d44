-- The start of an opening.
use Rattle.std.specs.Prelude.{ℕ, ◌/◌, ◌≡◌, Bool, List, [], ◌++◌, length}
use Rattle.dms_site.specs.Files.{Files, Only}
use Rattle.dms_history.specs.History.{Pending}
use Rattle.dms_history.specs.EntryEvents.{history_of}
use Rattle.dms_audfile.specs.TrailEntries.{trail_entries}
use Rattle.dms_running.specs.Standing.{IsWhole}
use Rattle.dms_running.specs.Points.{points_of, next_in}
use Rattle.dms_running.specs.Begun.{outcome_now}
use Rattle.dms_history.specs.Pick.{count_at}
use Rattle.dms_history.specs.Entries.{Entry, counts_in}
use Rattle.dms_history.specs.declared.event.Row.{Row}
use Rattle.dms_audrec.specs.Reading.{counts_at}
use Rattle.dms_running.specs.Running.{AllWritten}
use Rattle.dms_restore.specs.Logging as logs
use Rattle.dms_restore.specs.Logging.{LogView, telling, state, waits, LogRuns, entries, points, durable, content}
use Rattle.dms_restore.specs.Begins.{BegunAt}
use Rattle.dms_restore.specs.declared.restore_table.RestoreTable.{RestoreTable}
use Rattle.dms_restore.specs.declared.tracing.TrailHistory.{TrailHistory}
use Rattle.dms_restore.specs.Tracing.{IsTraced}
use Rattle.dms_restore.specs.Table.{IsPlan}
use Rattle.dms_restore.specs.Laying.{IsAtStart}
use Rattle.dms_opening.specs.declared.choosing.Choice.{Choice}
use Rattle.dms_opening.specs.declared.asked.Asked.{Asked}
use Rattle.dms_opening.specs.Doing.{IsDone, IsOpening}

-- A trail was scanned, its files hold a database, and this is what an opening does.
pub record MayOpen (v : LogView) (begins : Bool) (point : ℕ) (p : Pending) : Type 0 where
  pub start : IsAtStart v.end v.first v.files v.clock
  pub whole : IsWhole (telling v) v.files
  pub opening : IsOpening (history_of (trail_entries v.end.total v.first v.files)) begins point p

-- points, next number and what the restore is to leave are those of the files that were found
pub record BegunFrom (p : Pending) (a b : LogView) : Type 0 where
  pub points_same : points_of (telling b) b.files ≡ points_of (telling a) a.files
  pub next_same : next_in (telling b) b.files ≡ next_in (telling a) a.files
  pub outcome_same : outcome_now (telling b) p (state b) ≡ outcome_now (telling a) p (state a)

-- The restore is begun, the table is what it writes, and the Control is one of its point with the next number and the counts there.
pub record MayGoOn (p : Pending) (v : LogView) (table : RestoreTable) (point next : ℕ) (counts : List ℕ) : Type 0 where
  pub begun : BegunAt p v
  pub plan_is : IsPlan p v.files table
  pub point_is : point ≡ p.point
  pub next_is : next ≡ next_in (telling v) v.files
  pub count : (f : ℕ) → counts_in (counts_at (length counts / 8) counts) f ≡ count_at p.entries p.point f

-- These entries were sealed. The database runs with the content that the restore was to leave, and with all points, which are durable.
-- Nothing waits, each block of the content stands in its file, and a stop now leaves what is read.
pub record OpenedAt (p : Pending) (a b : LogView) (es : List Entry) : Type 0 where
  pub runs : LogRuns b
  pub entries_are : entries b ≡ trail_entries a.end.total a.first a.files ++ es
  pub nothing : waits b.end ≡ []
  pub content_is : content b ≡ outcome_now (telling a) p (state a)
  pub points_same : points b ≡ points_of (telling a) a.files
  pub all_durable : durable b ≡ length (points_of (telling a) a.files)
  pub next_same : logs.next b ≡ next_in (telling a) a.files
  pub written : AllWritten (telling b) (state b)
  pub only : Only b.files b.clock

-- What is kept in memory tells of some entries, and this is what is done for what is asked of them, by this restore.
pub record TracesDone (files : Files) (h : TrailHistory) (asked : Asked) (rows : List Row) (c : Choice) (p : Pending) : Type 0 where
  pub entries : List Entry
  pub traced : IsTraced files entries h
  pub done : IsDone (history_of entries) asked rows c.begins c.point p
