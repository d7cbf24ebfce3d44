-- What is done for what is asked once the restore that is pending has ended.
use Rattle.std.specs.Prelude.{ℕ, ◌≡◌, ◌⊎◌, true, List, Some}
use Rattle.dms_site.specs.Files.{Files}
use Rattle.dms_history.specs.History.{Pending, last_point}
use Rattle.dms_history.specs.Pick.{count_at}
use Rattle.dms_history.specs.Places.{IsLive}
use Rattle.dms_history.specs.Entries.{Entry, how_of}
use Rattle.dms_history.specs.EntryEvents.{history_of, live_of, next_of}
use Rattle.dms_history.specs.SchemaAt.{schema_at}
use Rattle.dms_history.specs.declared.event.Row.{Row}
use Rattle.dms_audfile.specs.Ends.{Grown}
use Rattle.dms_audfile.specs.TrailEntries.{trail_entries}
use Rattle.dms_audfile.specs.declared.fault.AudFault.TheVariants as aud
use Rattle.dms_restore.specs.Counts.{count_of}
use Rattle.dms_restore.specs.Table.{IsPlan}
use Rattle.dms_opening.specs.declared.asked.Asked.{Asked}
use Rattle.dms_opening.specs.declared.choosing.OpenFault.{OpenFault}
use Rattle.dms_opening.specs.declared.choosing.OpenFault.TheVariants.{Audit}
use Rattle.dms_opening.specs.declared.plan.OpeningPlan.{OpeningPlan}
use Rattle.dms_opening.specs.Doing.{point_asked, kind_asked}
use Rattle.dms_opening.specs.Plans.{SameDumps, IsPlainFault, HasNoDescriptionAt}

-- the restore that is asked for, to this point over these live entries
abbrev pub restore_asked : List Entry → Asked → List Row → ℕ → Pending
restore_asked entries asked rows point = record { entries = live_of entries; point = point; how = how_of (kind_asked asked rows) }

-- The restore that is asked for begins, to a point that is live. The table is what it writes, however the trail grows while dumps stay. The counts, the
-- description and the next number are those at its point.
pub record PlansBehind (total first : ℕ) (files : Files) (asked : Asked) (rows : List Row) (plan : OpeningPlan) : Type 0 where
  pub begins : plan.choice.begins ≡ true
  pub point_is : point_asked asked (last_point (history_of (trail_entries total first files))) ≡ Some plan.choice.point
  pub lives : IsLive (live_of (trail_entries total first files)) plan.choice.point
  pub plan_is : (new : Files) → Grown total first files new → SameDumps files new → IsPlan (restore_asked (trail_entries total first files) asked rows plan.choice.point) new plan.table
  pub counts_are : (f : ℕ) → count_of plan.counts.items f ≡ count_at (live_of (trail_entries total first files)) plan.choice.point f
  pub schema_is : schema_at (trail_entries total first files) plan.choice.point ≡ Some plan.schema.items
  pub next_is : next_of (trail_entries total first files) ≡ plan.next

-- the Schema at the point that is asked for has no byte, or more than a description can have
pub record HasNoDescriptionAsked (total first : ℕ) (files : Files) (asked : Asked) : Type 0 where
  pub point : ℕ
  pub point_is : point_asked asked (last_point (history_of (trail_entries total first files))) ≡ Some point
  pub at : HasNoDescriptionAt (trail_entries total first files) point

-- a call of the site failed, memory was refused, or there is no description
abbrev pub RefusesBehind : ℕ → ℕ → Files → Asked → OpenFault → Type 0
RefusesBehind total first files asked fault = IsPlainFault fault ⊎ ((fault ≡ Audit (aud.Damaged first 0)) × HasNoDescriptionAsked total first files asked)
