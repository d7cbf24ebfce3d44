-- What stands for blocks that the restores of a statement take from a structure file that hasn't them whole.
use Rattle.std.specs.Prelude.{ℕ, ◌≡◌, List, Option, Some, None}
use Rattle.dms_site.specs.Files.{Files, stored_of}
use Rattle.dms_history.specs.EntryEvents.{history_of}
use Rattle.dms_history.specs.History.{Pending}
use Rattle.dms_history.specs.declared.event.Row.{Row}
use Rattle.dms_audfile.specs.TrailEntries.{trail_entries}
use Rattle.dms_running.specs.ByHow.{IsKeptBy}
use Rattle.dms_restore.specs.Logging.{LogView}
use Rattle.dms_restore.specs.Planned.{AreCountsAt}
use Rattle.dms_statements.specs.declared.statement.NamedRow.{NamedRow}
use Rattle.dms_opening.specs.declared.plan.OpeningPlan.{OpeningPlan}
use Rattle.dms_opening.specs.Behind.{restore_asked}
use Rattle.dms_opening.specs.Carrying.{WritesFor}
use Rattle.dms_opening.specs.Doing.{goes_first}
use Rattle.dms_opening.specs.Marking.{whole_or_mark}
use Rattle.dms_opening.specs.Openings.{IsTrailFound}
use Rattle.dms_recovery.specs.declared.wanted.Wanted.{Wanted}
use Rattle.dms_recovery.specs.declared.wanted.Wanted.TheVariants.{Reconstruct}
use Rattle.dms_recovery.specs.Claims.{IsPointWanted}
use Rattle.dms_recovery.specs.Reconstructing.{NamesRows}
use Rattle.dms_recovery.specs.Wanting.{asked_for}

-- the restore that goes first takes the block from what is stored, where one goes first
abbrev pub IsKeptFirst : Option Pending → ℕ → ℕ → Type 0
IsKeptFirst None f b = Unit {0}
IsKeptFirst (Some q) f b = IsKeptBy q.how q.entries q.point f b

-- Each block that a restore, and the one that goes first, take from what is stored stands as it did where it was whole, and else as a mark.
abbrev pub MarksAll : Option Pending → Pending → Files → Files → Type 0
MarksAll first p old new = (f b : ℕ) → IsKeptFirst first f b → IsKeptBy p.how p.entries p.point f b → stored_of new f b ≡ whole_or_mark (stored_of old f b)

-- What the plan writes is what the restore writes, however the trail grows while dumps stay, and its counts are those at the restore's point.
pub record WritesCounted (v : LogView) (p : Pending) (plan : OpeningPlan) : Type 0 where
  pub writes : WritesFor v p plan
  pub counts_are : AreCountsAt plan.counts.items p

-- so it is of both
abbrev pub WritesAll : LogView → Option Pending → Pending → Option OpeningPlan → OpeningPlan → Type 0
WritesAll v None p None own = WritesCounted v p own
WritesAll v None p (Some before) own = ⊥
WritesAll v (Some q) p None own = ⊥
WritesAll v (Some q) p (Some before) own = WritesCounted v q before × WritesCounted v p own

-- Each block at the point that is wanted of these files which its restore, and the one that was pending and goes first, take from what is stored stands as it did
-- where it was whole, and else as a mark.
abbrev pub MarksWanted : Files → Files → Wanted → List Row → Type 0
MarksWanted old new wanted rows = (total first n : ℕ) → IsTrailFound total first old → IsPointWanted total first old wanted n
    → MarksAll (goes_first (asked_for total first old wanted) (history_of (trail_entries total first old)).pending) (restore_asked (trail_entries total first old) (asked_for total first old wanted) rows n) old new

-- So it is of a reconstruction of the rows that are named.
abbrev pub MarksNamed : Files → Files → ℕ → List NamedRow → Type 0
MarksNamed old new d named = (rows : List Row) × NamesRows old named rows × MarksWanted old new (Reconstruct d) rows
