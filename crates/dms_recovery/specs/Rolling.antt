-- A rollback behind a restore that is pending.
use Rattle.std.specs.Prelude.{◌≡◌, [], Option, Some, None}
use Rattle.dms_history.specs.Entries.{by_roll_back}
use Rattle.dms_running.specs.Standing.{IsWhole}
use Rattle.dms_restore.specs.Logging.{LogView, telling}
use Rattle.dms_restore.specs.Views.{LogStarts}
use Rattle.dms_opening.specs.declared.asked.Asked.{Asked}
use Rattle.dms_opening.specs.declared.plan.OpeningPlan.{OpeningPlan}
use Rattle.dms_opening.specs.Doing.{kind_asked}
use Rattle.dms_recovery.specs.Planned.{PlansBoth}

-- The files of a log hold a database, whose pending restore goes on by the first plan, and which is rolled back behind it by the other one.
pub record RollsBehind (v : LogView) (asked : Asked) (before own : OpeningPlan) : Type 0 where
  pub start : LogStarts v
  pub whole : IsWhole (telling v) v.files
  pub plans : PlansBoth v.end.total v.first v.files asked [] before own
  pub kind_is : kind_asked asked [] ≡ by_roll_back

-- so it is where one goes first
abbrev pub RollsAll : LogView → Asked → Option OpeningPlan → OpeningPlan → Type 0
RollsAll v asked None own = ⊥
RollsAll v asked (Some before) own = RollsBehind v asked before own
