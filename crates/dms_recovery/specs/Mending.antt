-- A reconstruction of rows behind a restore that is pending.
use Rattle.std.specs.Prelude.{ℕ, List, Option, Some, None}
use Rattle.dms_site.specs.Files.{Files}
use Rattle.dms_history.specs.Entries.{named_by}
use Rattle.dms_history.specs.declared.event.Row.{Row}
use Rattle.dms_restore.specs.Logging.{LogView}
use Rattle.dms_restore.specs.Views.{LogStarts}
use Rattle.dms_opening.specs.declared.asked.Asked.TheVariants.{Reconstruct}
use Rattle.dms_opening.specs.declared.plan.OpeningPlan.{OpeningPlan}
use Rattle.dms_recovery.specs.Leaving.{IsMendedFrom}
use Rattle.dms_recovery.specs.Planned.{PlansBoth}

-- The files of a log are those of a database with files u but for the blocks of these rows, and dump d is a true one of it. Its pending restore goes on by the
-- first plan, and the rows are reconstructed behind it by the other one.
pub record MendsBehind (v : LogView) (u : Files) (d : ℕ) (rows : List Row) (before own : OpeningPlan) : Type 0 where
  pub start : LogStarts v
  pub mended : IsMendedFrom v.end.total v.first v.files u d (named_by rows)
  pub plans : PlansBoth v.end.total v.first v.files (Reconstruct d) rows before own

-- so it is where one goes first
abbrev pub MendsAll : LogView → Files → ℕ → List Row → Option OpeningPlan → OpeningPlan → Type 0
MendsAll v u d rows None own = ⊥
MendsAll v u d rows (Some before) own = MendsBehind v u d rows before own
