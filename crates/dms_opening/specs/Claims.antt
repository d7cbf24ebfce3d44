-- What is promised of the steps of an opening.
use Rattle.std.specs.Prelude.{ℕ, ◌⊎◌, ◌≡◌, Bool, false, IsTrue, List, Option, Some, None}
use Rattle.dms_moments.specs.Moments.{Clock, Runs}
use Rattle.dms_site.specs.declared.site.Site.{Ghosts}
use Rattle.dms_site.specs.Files.{Files, Left}
use Rattle.dms_history.specs.declared.event.Row.{Row}
use Rattle.dms_history.specs.Entries.{Entry, Kind, by_halt_load}
use Rattle.dms_history.specs.EntryEvents.{history_of, live_of, next_of}
use Rattle.dms_history.specs.Events.{Stored}
use Rattle.dms_history.specs.History.{Pending}
use Rattle.dms_history.specs.Places.{IsLive}
use Rattle.dms_history.specs.SchemaAt.{schema_at}
use Rattle.dms_audfile.specs.EntryReading.{IsCurrent}
use Rattle.dms_audfile.specs.TrailEntries.{trail_entries}
use Rattle.dms_audfile.specs.declared.fault.AudFault.{AudFault}
use Rattle.dms_audfile.specs.declared.fault.AudFault.TheVariants as aud
use Rattle.dms_audfile.specs.declared.place.EntryPlace.{EntryPlace}
use Rattle.dms_audfile.specs.declared.reader.EntryReader.{EntryReader}
use Rattle.dms_running.specs.AnyBegun.{BeginLeaves}
use Rattle.dms_running.specs.Standing.{IsWhole}
use Rattle.dms_restore.specs.declared.restore_table.RestoreTable.{RestoreTable}
use Rattle.dms_restore.specs.declared.trace.TrailTrace.{TrailTrace}
use Rattle.dms_restore.specs.declared.tracing.TrailHistory.{TrailHistory}
use Rattle.dms_restore.specs.Logging.{LogView, telling, state}
use Rattle.dms_restore.specs.Scanned.{HasNoEntry}
use Rattle.dms_restore.specs.Table.{IsPlan}
use Rattle.dms_restore.specs.Tracing.{IsTraced}
use Rattle.dms_restore.specs.Views.{LogStarts, view_of}
use Rattle.dms_wal.specs.declared.running.Running.{Running}
use Rattle.dms_opening.specs.declared.asked.Asked.{Asked}
use Rattle.dms_opening.specs.declared.asked.DumpLook.{DumpLook}
use Rattle.dms_opening.specs.declared.choosing.Choice.{Choice}
use Rattle.dms_opening.specs.declared.choosing.OpenFault.{OpenFault}
use Rattle.dms_opening.specs.declared.choosing.OpenFault.TheVariants.{Audit}
use Rattle.dms_opening.specs.declared.dump_looks.DumpFound.{DumpFound}
use Rattle.dms_opening.specs.declared.opened.Opened.{Opened}
use Rattle.dms_opening.specs.declared.plan.OpeningPlan.{OpeningPlan}
use Rattle.dms_opening.specs.Asked.{judge}
use Rattle.dms_opening.specs.Behind.{PlansBehind, RefusesBehind}
use Rattle.dms_opening.specs.Carrying.{IsPlanned, MayBegin, WritesFor}
use Rattle.dms_opening.specs.Choices.{judge_files, Chooses}
use Rattle.dms_opening.specs.DumpLooks.{IsFoundFor}
use Rattle.dms_opening.specs.Openings.{RunsFrom, Reopens, ending_entries}
use Rattle.dms_opening.specs.Plans.{IsTrailRead, HasNoDescriptionAt, IsPlainFault, AreFoundFor}
use Rattle.dms_opening.specs.Starts.{TracesDone, MayGoOn}

-- ---- what is read

-- These bytes are the description at a point of a trail that was scanned.
abbrev pub DescribesAt : Bool → ℕ → Files → List EntryPlace → TrailTrace → ℕ → List ℕ → Type 0
DescribesAt tells first files places trace point bytes = IsTrue tells → (total : ℕ) → IsTrailRead total first files places trace
    → IsLive (live_of (trail_entries total first files)) point → schema_at (trail_entries total first files) point ≡ Some bytes

-- So there is none: the Schema there is none, or a call failed.
abbrev pub HasNone : Bool → ℕ → Files → List EntryPlace → TrailTrace → ℕ → OpenFault → Type 0
HasNone tells first files places trace point e = IsTrue tells → (total : ℕ) → IsTrailRead total first files places trace → IsLive (live_of (trail_entries total first files)) point
    → IsPlainFault e ⊎ ((e ≡ Audit (aud.Damaged first 0)) × HasNoDescriptionAt (trail_entries total first files) point)

-- No entry stands at a place, as a reader of it says.
abbrev pub MissesEntry : Bool → EntryReader → Files → EntryPlace → AudFault → Type 0
MissesEntry tells reader files place e = (e ≡ aud.Damaged place.file place.block) × (IsTrue tells → IsCurrent reader files → HasNoEntry files place)

-- ---- what is chosen

-- This is done for what is asked of the entries that are kept, where it isn't refused.
abbrev pub ChoosesUnrefused : TrailHistory → Asked → Choice → Type 0
ChoosesUnrefused h asked c = (files : Files) (entries : List Entry) (rows : List Row) (first : ℕ) (begun look : DumpLook) → IsTraced files entries h
    → judge first (history_of entries) (next_of entries) asked begun look ≡ None → Chooses (judge first (history_of entries) (next_of entries) asked begun look) (history_of entries) asked rows c

abbrev pub ChoosesFor : TrailHistory → ℕ → Asked → DumpLook → DumpLook → Choice → Type 0
ChoosesFor h first asked begun look c = (files : Files) (entries : List Entry) (rows : List Row) → IsTraced files entries h
    → Chooses (judge first (history_of entries) (next_of entries) asked begun look) (history_of entries) asked rows c

-- The table is what the restore writes that is chosen, whatever files the kept entries are of.
abbrev pub PlansDone : Bool → Files → TrailHistory → Asked → List Row → Choice → DumpFound → RestoreTable → Type 0
PlansDone tells old h asked rows c found t = IsTrue tells → (p : Pending) → TracesDone old h asked rows c p → (files : Files) → TracesDone files h asked rows c p → IsFoundFor files p.how found → IsPlan p files t

-- What is asked of a trail that was scanned isn't refused: so this holds of it.
abbrev pub IfAsked : Bool → ℕ → Files → List EntryPlace → TrailTrace → Asked → DumpFound → (ℕ → Type 0) → Type 0
IfAsked tells first files places trace asked look is = IsTrue tells → (total : ℕ) (begun : DumpFound) → AreFoundFor total first files places trace asked begun look
    → judge_files total first files asked ≡ None → is total

-- ---- what is carried out

-- A plan of an opening over whole files leads to a database that runs, and a stop meanwhile leaves a database with all points.
abbrev pub RunsAsPlanned : Bool → Kind → LogView → OpeningPlan → LogView → Type 0
RunsAsPlanned tells kind v plan b = IsTrue tells → kind ≡ by_halt_load → IsPlanned v plan → IsWhole (telling v) v.files → RunsFrom v.files plan.choice.point plan.next plan.schema.items plan.counts.items b

abbrev pub ReopensAsPlanned : Bool → Kind → LogView → OpeningPlan → Option (List ℕ) → Clock Left → Type 0
ReopensAsPlanned tells kind v plan text clock = IsTrue tells → kind ≡ by_halt_load → IsPlanned v plan → IsWhole (telling v) v.files → Runs v.clock clock (Reopens (telling v) v.files text)

-- A stop meanwhile leaves what a Begin may leave.
abbrev pub BeginsAsPlanned : Bool → Kind → LogView → OpeningPlan → Clock Left → Type 0
BeginsAsPlanned tells kind v plan clock = (right : Stored) → IsTrue tells → MayBegin v right kind plan → Runs v.clock clock (BeginLeaves (telling v) (state v) right plan.choice.point)

-- Where a restore that is begun may go on, this holds of it.
abbrev pub IfGoesOn : Bool → LogView → RestoreTable → ℕ → ℕ → List ℕ → (Pending → Type 0) → Type 0
IfGoesOn tells v table point next counts is = (p : Pending) → IsTrue tells → MayGoOn p v table point next counts → is p

-- Where the table is what a restore writes over these files, whatever they hold, this holds of that restore.
abbrev pub OverWhere : Bool → LogView → RestoreTable → (Pending → Type 0) → Type 0
OverWhere tells v table is = (p : Pending) → IsTrue tells → LogStarts v → IsPlan p v.files table → is p

-- so it is where a plan goes on with a restore that is pending
abbrev pub GoesOnWhere : Bool → LogView → OpeningPlan → (Pending → Type 0) → Type 0
GoesOnWhere tells v plan is = (p : Pending) → IsTrue tells → plan.choice.begins ≡ false → WritesFor v p plan → is p

-- the Schema and the Control that end the restore of a plan
abbrev pub ends_of : OpeningPlan → List Entry
ends_of plan = ending_entries plan.choice.point plan.next plan.schema.items plan.counts.items

-- the audit of a log has no room
abbrev pub IsFullAt : LogView → AudFault → Type 0
IsFullAt v e = e ≡ aud.Full v.end.limit

-- ---- what was opened

module _ {S : Type 0} (g : Ghosts S) where
  -- What was opened runs from these files.
  abbrev pub IsOpenedFrom : Files → Opened S → Type 0
  IsOpenedFrom files o = RunsFrom files o.point o.next o.schema.items o.counts.items (view_of g o.log)

-- What runs has the description, the counts, the next number and the point of what was opened, and control points so often. Nothing was done by it yet:
-- it changed no block, it neither synced nor backed out, and nothing has changed since the last point.
abbrev pub StartsAsOpened : {S : Type 0} → Opened S → ℕ → Running S → Type 0
StartsAsOpened o every r = (r.schema ≡ o.schema) × (r.counts ≡ o.counts) × (r.next ≡ o.next) × (r.point ≡ o.point)
    × (r.every ≡ every) × (r.changed ≡ false) × (r.syncs ≡ 0) × (r.spent ≡ 0) × (r.outs ≡ 0)
