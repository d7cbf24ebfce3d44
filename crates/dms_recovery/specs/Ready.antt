-- What was planned may be carried out, one restore after the other.
use Rattle.std.specs.Prelude.{Option, Some, None}
use Rattle.dms_history.specs.History.{Pending}
use Rattle.dms_restore.specs.Logging.{LogView}
use Rattle.dms_opening.specs.declared.plan.OpeningPlan.{OpeningPlan}
use Rattle.dms_opening.specs.Carrying.{WritesFor}

-- A trail was scanned, and what each plan writes is what some restore writes, however the trail grows while dumps stay.
pub record AreReadyBoth (v : LogView) (before own : OpeningPlan) : Type 0 where
  pub pending : Pending
  pub first_writes : WritesFor v pending before
  pub restore : Pending
  pub own_writes : WritesFor v restore own

pub record IsReadyAlone (v : LogView) (own : OpeningPlan) : Type 0 where
  pub restore : Pending
  pub writes : WritesFor v restore own

abbrev pub AreReady : LogView → Option OpeningPlan → OpeningPlan → Type 0
AreReady v None own = IsReadyAlone v own
AreReady v (Some before) own = AreReadyBoth v before own
