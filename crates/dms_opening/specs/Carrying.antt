-- What is planned is carried out.
use Rattle.std.specs.Prelude.{ℕ, ◌≡◌, true, List, [], ◌∷◌, ◌++◌, length}
use Rattle.dms_site.specs.Files.{Files, Only}
use Rattle.dms_history.specs.Events.{Stored}
use Rattle.dms_history.specs.History.{Pending}
use Rattle.dms_history.specs.Pick.{blocks_at, count_at}
use Rattle.dms_history.specs.Here.{here}
use Rattle.dms_history.specs.Entries.{Kind, begin_restore}
use Rattle.dms_history.specs.EntryEvents.{history_of, live_of, next_of}
use Rattle.dms_history.specs.declared.event.Row.{Row}
use Rattle.dms_audfile.specs.Ends.{Grown}
use Rattle.dms_audfile.specs.TrailEntries.{trail_entries}
use Rattle.dms_running.specs.AnyBegun.{points_to}
use Rattle.dms_running.specs.Running.{AllWritten}
use Rattle.dms_restore.specs.Begins.{BeginsAny, any_to}
use Rattle.dms_restore.specs.Counts.{count_of}
use Rattle.dms_restore.specs.Dumped.{dumps_of}
use Rattle.dms_restore.specs.Laying.{IsAtStart}
use Rattle.dms_restore.specs.Logging as logs
use Rattle.dms_restore.specs.Logging.{LogView, LogRuns, telling, state, waits, entries, points, durable, content}
use Rattle.dms_restore.specs.Table.{AreBlocks, AreRuns, IsPlan}
use Rattle.dms_wal.specs.Lifting.{AreCounts}
use Rattle.dms_wal.specs.Marks.{IsDescription}
use Rattle.dms_opening.specs.declared.asked.Asked.{Asked}
use Rattle.dms_opening.specs.declared.asked.Asked.TheVariants.{HaltLoad}
use Rattle.dms_opening.specs.declared.plan.OpeningPlan.{OpeningPlan}
use Rattle.dms_opening.specs.Openings.{ending_entries}
use Rattle.dms_opening.specs.Plans.{PlansFor, SameDumps}

-- What is written are blocks of structure files, the counts are those of at most 200 files, none with more blocks than may be, and the
-- description has from 1 to 65,535 bytes.
pub record IsFitPlan (plan : OpeningPlan) : Type 0 where
  pub runs : AreRuns plan.table.runs.items
  pub blocks : AreBlocks plan.table.told.items
  pub counts : AreCounts plan.counts.items
  pub described : IsDescription plan.schema.items

-- A trail was scanned, and this is what is done for what is asked of it.
pub record IsPlannedFor (v : LogView) (asked : Asked) (rows : List Row) (plan : OpeningPlan) : Type 0 where
  pub start : IsAtStart v.end v.first v.files v.clock
  pub plans : PlansFor v.end.total v.first v.files asked rows plan

-- so it is for its opening
abbrev pub IsPlanned : LogView → OpeningPlan → Type 0
IsPlanned v plan = IsPlannedFor v HaltLoad [] plan

-- A trail was scanned, and what the plan writes is what this restore writes, however the trail grows while dumps stay.
pub record WritesFor (v : LogView) (p : Pending) (plan : OpeningPlan) : Type 0 where
  pub start : IsAtStart v.end v.first v.files v.clock
  pub plan_is : (new : Files) → Grown v.end.total v.first v.files new → SameDumps v.files new → IsPlan p new plan.table

-- The plan begins a restore of this kind, which may begin with these right blocks, and its counts and its next number are those at its point.
pub record MayBegin (v : LogView) (right : Stored) (kind : Kind) (plan : OpeningPlan) : Type 0 where
  pub begins : plan.choice.begins ≡ true
  pub writes : WritesFor v (any_to v plan.choice.point kind) plan
  pub counts_are : (f : ℕ) → count_of plan.counts.items f ≡ count_at (live_of (trail_entries v.end.total v.first v.files)) plan.choice.point f
  pub next_is : next_of (trail_entries v.end.total v.first v.files) ≡ plan.next
  pub from : BeginsAny v right plan.choice.point kind

-- The database runs at the point of the plan. Exactly the Begin, the Schema and a Control were sealed, and nothing waits. Exactly the points up to
-- that one are left, all durable, and the next number is the same. The content is that at the point, each block of it stands in its file, and a stop
-- now leaves what is read.
pub record RunsTo (a : LogView) (right : Stored) (kind : Kind) (plan : OpeningPlan) (v : LogView) : Type 0 where
  pub runs : LogRuns v
  pub nothing : waits v.end ≡ []
  pub entries_are : entries v ≡ trail_entries a.end.total a.first a.files ++ begin_restore plan.choice.point kind ∷ ending_entries plan.choice.point plan.next plan.schema.items plan.counts.items
  pub points_are : points v ≡ points_to (telling a) (state a) right plan.choice.point
  pub all_durable : durable v ≡ length (points v)
  pub next_is : logs.next v ≡ plan.next
  pub content_is : content v ≡ blocks_at (live_of (trail_entries a.end.total a.first a.files)) (here (dumps_of a.files) (history_of (trail_entries a.end.total a.first a.files)) right) plan.choice.point
  pub written : AllWritten (telling v) (state v)
  pub only : Only v.files v.clock
