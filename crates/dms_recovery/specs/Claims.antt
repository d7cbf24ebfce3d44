-- What is promised of the steps of a restore: where it leads, and what a stop meanwhile leaves.
use Rattle.std.specs.Prelude.{ℕ, ◌≡◌, Bool, IsTrue, List, Option, Some, None}
use Rattle.dms_desc.specs.Shape.{Described}
use Rattle.dms_moments.specs.Moments.{Clock, Runs}
use Rattle.dms_site.specs.declared.site.Site.{Ghosts}
use Rattle.dms_site.specs.Files.{Files, Left, Only}
use Rattle.dms_history.specs.declared.event.Row.{Row}
use Rattle.dms_history.specs.Entries.{Kind, by_reconstruct, by_roll_back, named_by}
use Rattle.dms_history.specs.EntryEvents.{history_of}
use Rattle.dms_history.specs.Events.{Stored}
use Rattle.dms_history.specs.History.{Pending}
use Rattle.dms_audfile.specs.TrailEntries.{trail_entries}
use Rattle.dms_running.specs.AnyBegun.{BeginLeaves}
use Rattle.dms_running.specs.Standing.{IsWhole}
use Rattle.dms_restore.specs.Logging.{LogView, telling, telling_of, state}
use Rattle.dms_statements.specs.declared.statement.NamedRow.{NamedRow}
use Rattle.dms_opening.specs.declared.asked.Asked.{Asked}
use Rattle.dms_opening.specs.declared.choosing.OpenFault.{OpenFault}
use Rattle.dms_opening.specs.declared.plan.OpeningPlan.{OpeningPlan}
use Rattle.dms_opening.specs.Carrying.{MayBegin, RunsTo}
use Rattle.dms_opening.specs.Doing.{point_asked}
use Rattle.dms_opening.specs.Openings.{IsTrailFound}
use Rattle.dms_recovery.specs.declared.wanted.Wanted.{Wanted}
use Rattle.dms_recovery.specs.declared.wanted.Wanted.TheVariants.{Reconstruct, Rollback}
use Rattle.dms_recovery.specs.Leaving.{HoldsUpTo, MendsTo, RollsTo, RestoresTo, IsRebuiltFrom, IsMendedFrom}
use Rattle.dms_recovery.specs.Mending.{MendsAll}
use Rattle.dms_recovery.specs.Planned.{PlansAll, RefusesAll}
use Rattle.dms_recovery.specs.Reconstructing.{MayReconstruct}
use Rattle.dms_recovery.specs.Restoring.{MayRestore}
use Rattle.dms_recovery.specs.Rolling.{RollsAll}
use Rattle.dms_recovery.specs.Rows.{named_blocks}
use Rattle.dms_recovery.specs.Wanting.{asked_for, chosen_point, last_of}

-- ---- what is planned

-- This is planned for what is wanted of these files, the restore that is pending first.
abbrev pub PlansWanted : ℕ → ℕ → Files → Wanted → List Row → Option OpeningPlan → OpeningPlan → Type 0
PlansWanted total first files wanted rows before own = PlansAll total first files (asked_for total first files wanted) rows before own

-- What is wanted of these files is refused, or there is no description at its point.
abbrev pub RefusesWantedOf : ℕ → ℕ → Files → Wanted → OpenFault → Type 0
RefusesWantedOf total first files wanted fault = RefusesAll total first files (asked_for total first files wanted) fault

-- What is wanted of these files goes to point n.
abbrev pub IsPointWanted : ℕ → ℕ → Files → Wanted → ℕ → Type 0
IsPointWanted total first files wanted n = point_asked (asked_for total first files wanted) (last_of total first files) ≡ Some n

-- ---- what is carried out

-- A restore before which no other one goes, and which may begin with these right blocks, leads to a database that runs at its point.
abbrev pub RunsAlone : Bool → Kind → LogView → Option OpeningPlan → OpeningPlan → LogView → Type 0
RunsAlone tells kind v before own b = (right : Stored) → IsTrue tells → before ≡ None → MayBegin v right kind own → RunsTo v right kind own b

-- A stop meanwhile leaves what its Begin may leave.
abbrev pub LeavesAlone : Bool → Kind → LogView → Option OpeningPlan → OpeningPlan → Clock Left → Type 0
LeavesAlone tells kind v before own clock = (right : Stored) → IsTrue tells → before ≡ None → MayBegin v right kind own
    → Runs v.clock clock (BeginLeaves (telling v) (state v) right own.choice.point)

-- A rollback behind the restore that is pending leads to exactly the points up to its own, and a stop then leaves no other files.
abbrev pub ReachesAsPlanned : Bool → Kind → LogView → Option OpeningPlan → OpeningPlan → LogView → Type 0
ReachesAsPlanned tells kind v before own b = (asked : Asked) → IsTrue tells → kind ≡ by_roll_back → RollsAll v asked before own
    → HoldsUpTo (telling v) v.files own.choice.point b.files × Only b.files b.clock

-- A stop meanwhile leaves all points, or exactly those.
abbrev pub LeavesAsPlanned : Bool → Kind → LogView → Option OpeningPlan → OpeningPlan → Clock Left → Type 0
LeavesAsPlanned tells kind v before own clock = (asked : Asked) → IsTrue tells → kind ≡ by_roll_back → RollsAll v asked before own
    → Runs v.clock clock (RollsTo (telling v) v.files own.choice.point)

-- A reconstruction of rows behind the restore that is pending leads to exactly the points up to its own, of each database from which the files differ in the
-- blocks of these rows alone, and a stop then leaves no other files.
abbrev pub MendsAsPlanned : Bool → Kind → LogView → Option OpeningPlan → OpeningPlan → LogView → Type 0
MendsAsPlanned tells kind v before own b = (u : Files) (d : ℕ) (rows : List Row) → IsTrue tells → kind ≡ by_reconstruct d rows → MendsAll v u d rows before own
    → HoldsUpTo (telling v) u own.choice.point b.files × Only b.files b.clock

-- A stop meanwhile leaves what there was, or that database but for those blocks, or exactly those points.
abbrev pub LeavesMending : Bool → Kind → LogView → Option OpeningPlan → OpeningPlan → Clock Left → Type 0
LeavesMending tells kind v before own clock = (u : Files) (d : ℕ) (rows : List Row) → IsTrue tells → kind ≡ by_reconstruct d rows → MendsAll v u d rows before own
    → Runs v.clock clock (MendsTo (telling v) v.files u (named_by rows) own.choice.point)

-- ---- from the site that was found to the one that is given back

module _ {S : Type 0} (g : Ghosts S) where
  -- The files of a site hold exactly the points of database u up to point m, and a stop leaves no other files.
  abbrev pub ReachesPoint : ℕ → ℕ → Files → ℕ → S → Type 0
  ReachesPoint total first u m new = HoldsUpTo (telling_of total first) u m (g.files new) × Only (g.files new) (g.clock new)

  -- Each stop between left all points of the database that stood there, or exactly those up to point m.
  abbrev pub RollsBetween : ℕ → ℕ → ℕ → S → S → Type 0
  RollsBetween total first m old new = Runs (g.clock old) (g.clock new) (RollsTo (telling_of total first) (g.files old) m)

  -- Each stop between left the audit, the dumps and the structure files as they were, or exactly the points of database u up to point m.
  abbrev pub RestoresBetween : ℕ → ℕ → Files → ℕ → S → S → Type 0
  RestoresBetween total first u m old new = Runs (g.clock old) (g.clock new) (RestoresTo (telling_of total first) (g.files old) u m)

  -- So it did, or, where a restore was pending, database u but for the named blocks.
  abbrev pub MendsBetween : ℕ → ℕ → Files → (ℕ → ℕ → Bool) → ℕ → S → S → Type 0
  MendsBetween total first u named m old new = Runs (g.clock old) (g.clock new) (MendsTo (telling_of total first) (g.files old) u named m)

  -- A rollback of a database reaches point m.
  abbrev pub RollbackReaches : S → S → ℕ → Type 0
  RollbackReaches old new m = (total first : ℕ) → IsTrue g.tells → IsTrailFound total first (g.files old) → IsWhole (telling_of total first) (g.files old)
      → ReachesPoint total first (g.files old) m new

  -- A stop within it leaves all points, or those up to m.
  abbrev pub RollbackLeaves : S → S → ℕ → Type 0
  RollbackLeaves old new m = (total first : ℕ) → IsTrue g.tells → IsTrailFound total first (g.files old) → IsWhole (telling_of total first) (g.files old)
      → RollsBetween total first m old new

  -- A rebuild reaches the point that is chosen, of each database from which the files differ in structure files alone, and from which dump d was copied.
  abbrev pub RebuildReaches : S → S → ℕ → Option ℕ → Type 0
  RebuildReaches old new d chosen = (u : Files) (total first : ℕ) → IsTrue g.tells → IsTrailFound total first (g.files old) → IsRebuiltFrom total first (g.files old) u d
      → ReachesPoint total first u (chosen_point total first (g.files old) chosen) new

  -- A stop within it leaves what there was, or that database at the point.
  abbrev pub RebuildLeaves : S → S → ℕ → Option ℕ → Type 0
  RebuildLeaves old new d chosen = (u : Files) (total first : ℕ) → IsTrue g.tells → IsTrailFound total first (g.files old) → IsRebuiltFrom total first (g.files old) u d
      → RestoresBetween total first u (chosen_point total first (g.files old) chosen) old new

  -- A reconstruction of rows reaches the last point, of each database from which the files differ in the blocks of these rows alone, and of which dump d is
  -- true.
  abbrev pub MendingReaches : S → S → ℕ → List Row → Type 0
  MendingReaches old new d rows = (u : Files) (total first n : ℕ) → IsTrue g.tells → IsTrailFound total first (g.files old) → last_of total first (g.files old) ≡ Some n
      → IsMendedFrom total first (g.files old) u d (named_by rows) → ReachesPoint total first u n new

  -- A stop within it leaves what there was, or that database, or, where a restore was pending, that database but for those blocks.
  abbrev pub MendingLeaves : S → S → ℕ → List Row → Type 0
  MendingLeaves old new d rows = (u : Files) (total first n : ℕ) → IsTrue g.tells → IsTrailFound total first (g.files old) → last_of total first (g.files old) ≡ Some n
      → IsMendedFrom total first (g.files old) u d (named_by rows) → MendsBetween total first u (named_by rows) n old new

  -- So it is where the rows are named by the description at the last point.
  abbrev pub ReconstructReaches : S → S → ℕ → List NamedRow → Type 0
  ReconstructReaches old new d named = (u : Files) (total first n : ℕ) (desc : Described) → IsTrue g.tells → MayReconstruct total first (g.files old) u d named n desc → ReachesPoint total first u n new

  -- A stop within it leaves what there was, or that database, or, where a restore was pending, that database but for the blocks of those rows.
  abbrev pub ReconstructLeaves : S → S → ℕ → List NamedRow → Type 0
  ReconstructLeaves old new d named = (u : Files) (total first n : ℕ) (desc : Described) → IsTrue g.tells → MayReconstruct total first (g.files old) u d named n desc
      → MendsBetween total first u (named_blocks desc.structures named) n old new

  -- What is wanted, where no restore goes first, reaches this point, of each database that it may restore.
  abbrev pub RestoreReaches : S → S → Wanted → List Row → ℕ → Type 0
  RestoreReaches old new wanted rows point = (u : Files) (total first : ℕ) → IsTrue g.tells → MayRestore total first (g.files old) u wanted rows → ReachesPoint total first u point new

  -- It goes to this point, of whatever files.
  abbrev pub GoesTo : S → Wanted → ℕ → Type 0
  GoesTo old wanted point = (total first : ℕ) → IsTrue g.tells → IsTrailFound total first (g.files old) → (n : ℕ) → IsPointWanted total first (g.files old) wanted n → point ≡ n

  -- A stop within it leaves what there was, or that database at the point that is wanted.
  abbrev pub RestoreLeaves : S → S → Wanted → List Row → Type 0
  RestoreLeaves old new wanted rows = (u : Files) (total first n : ℕ) → IsTrue g.tells → MayRestore total first (g.files old) u wanted rows → IsPointWanted total first (g.files old) wanted n
      → RestoresBetween total first u n old new

  -- A rollback of a database in which a restore is pending reaches its point behind that one.
  abbrev pub RollbackBehindReaches : S → S → Wanted → Type 0
  RollbackBehindReaches old new wanted = (n total first : ℕ) (q : Pending) → IsTrue g.tells → wanted ≡ Rollback n → IsTrailFound total first (g.files old)
      → (history_of (trail_entries total first (g.files old))).pending ≡ Some q → IsWhole (telling_of total first) (g.files old) → ReachesPoint total first (g.files old) n new

  -- A stop within it leaves all points, or those up to its own.
  abbrev pub RollbackBehindLeaves : S → S → Wanted → Type 0
  RollbackBehindLeaves old new wanted = (n total first : ℕ) (q : Pending) → IsTrue g.tells → wanted ≡ Rollback n → IsTrailFound total first (g.files old)
      → (history_of (trail_entries total first (g.files old))).pending ≡ Some q → IsWhole (telling_of total first) (g.files old) → RollsBetween total first n old new

  -- A reconstruction of rows reaches the last point behind the restore that is pending.
  abbrev pub MendingBehindReaches : S → S → Wanted → List Row → Type 0
  MendingBehindReaches old new wanted rows = (u : Files) (d n total first : ℕ) (q : Pending) → IsTrue g.tells → wanted ≡ Reconstruct d → IsTrailFound total first (g.files old)
      → (history_of (trail_entries total first (g.files old))).pending ≡ Some q → last_of total first (g.files old) ≡ Some n → IsMendedFrom total first (g.files old) u d (named_by rows)
      → ReachesPoint total first u n new

  -- A stop within it leaves what there was, or that database, or that database but for those blocks.
  abbrev pub MendingBehindLeaves : S → S → Wanted → List Row → Type 0
  MendingBehindLeaves old new wanted rows = (u : Files) (d n total first : ℕ) (q : Pending) → IsTrue g.tells → wanted ≡ Reconstruct d → IsTrailFound total first (g.files old)
      → (history_of (trail_entries total first (g.files old))).pending ≡ Some q → last_of total first (g.files old) ≡ Some n → IsMendedFrom total first (g.files old) u d (named_by rows)
      → MendsBetween total first u (named_by rows) n old new
