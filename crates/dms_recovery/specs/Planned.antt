-- What is planned for a statement, the restore that is pending first.
use Rattle.std.specs.Prelude.{ℕ, ◌≡◌, ◌≤◌, ◌⊎◌, true, false, List, Option, Some, None, length}
use Rattle.dms_site.specs.Files.{Files}
use Rattle.dms_history.specs.declared.event.Row.{Row}
use Rattle.dms_opening.specs.declared.asked.Asked.{Asked}
use Rattle.dms_opening.specs.declared.choosing.OpenFault.{OpenFault}
use Rattle.dms_opening.specs.declared.plan.OpeningPlan.{OpeningPlan}
use Rattle.dms_opening.specs.Behind.{PlansBehind, RefusesBehind}
use Rattle.dms_opening.specs.Carrying.{IsFitPlan}
use Rattle.dms_opening.specs.Choices.{judge_files}
use Rattle.dms_opening.specs.Openings.{NamesStructures}
use Rattle.dms_opening.specs.Plans.{PlansFor, RefusesFor}

-- The pending restore goes on by the first plan, and what is asked begins behind it by the other one.
pub record PlansBoth (total first : ℕ) (files : Files) (asked : Asked) (rows : List Row) (before own : OpeningPlan) : Type 0 where
  pub first_plan : PlansFor total first files asked rows before
  pub goes_on : before.choice.begins ≡ false
  pub own_plan : PlansBehind total first files asked rows own

-- What is asked begins.
pub record PlansAlone (total first : ℕ) (files : Files) (asked : Asked) (rows : List Row) (own : OpeningPlan) : Type 0 where
  pub plan : PlansFor total first files asked rows own
  pub begins : own.choice.begins ≡ true

abbrev pub PlansAll : ℕ → ℕ → Files → Asked → List Row → Option OpeningPlan → OpeningPlan → Type 0
PlansAll total first files asked rows None own = PlansAlone total first files asked rows own
PlansAll total first files asked rows (Some before) own = PlansBoth total first files asked rows before own

-- each of them fits
abbrev pub AreFit : Option OpeningPlan → OpeningPlan → Type 0
AreFit None own = IsFitPlan own
AreFit (Some before) own = IsFitPlan before × IsFitPlan own

-- Each plan has a count for each structure of the description at its point, and none of 0 behind these.
abbrev pub AreNamed : Option OpeningPlan → OpeningPlan → Type 0
AreNamed None own = NamesStructures own.schema.items own.counts.items
AreNamed (Some before) own = NamesStructures before.schema.items before.counts.items × NamesStructures own.schema.items own.counts.items

-- none of them has more than s
abbrev pub AreWithin : ℕ → Option OpeningPlan → OpeningPlan → Type 0
AreWithin s None own = length own.counts.items ≤ s
AreWithin s (Some before) own = (length before.counts.items ≤ s) × (length own.counts.items ≤ s)

-- what is asked is refused, or there is no description at its point
abbrev pub RefusesAll : ℕ → ℕ → Files → Asked → OpenFault → Type 0
RefusesAll total first files asked fault = RefusesFor total first files asked fault ⊎ ((judge_files total first files asked ≡ None) × RefusesBehind total first files asked fault)
