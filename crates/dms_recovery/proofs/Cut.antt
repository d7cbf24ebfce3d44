-- A plan whose counts were cut.
use Rattle.std.proofs.Common.{ℕ, ◌≡◌, List, sym, ◌∙◌, subst}
use Rattle.dms_site.specs.Files.{Files}
use Rattle.dms_history.specs.declared.event.Row.{Row}
use Rattle.dms_restore.specs.Counts.{count_of}
use Rattle.dms_opening.specs.declared.asked.Asked.{Asked}
use Rattle.dms_opening.specs.declared.plan.OpeningPlan.{OpeningPlan}
use Rattle.dms_opening.specs.Behind.{PlansBehind}
use Rattle.dms_opening.specs.Plans.{PlansFor}

module _ (total first : ℕ) (files : Files) (asked : Asked) (rows : List Row) (a b : OpeningPlan) (choice : b.choice ≡ a.choice) (next : b.next ≡ a.next) (table : b.table ≡ a.table) (schema : b.schema ≡ a.schema) (same : (f : ℕ) → count_of b.counts.items f ≡ count_of a.counts.items f) where
  pub cut_for : PlansFor total first files asked rows a → PlansFor total first files asked rows b
  cut_for p = subst (λ (q : OpeningPlan). PlansFor total first files asked rows q) (λ i. record { choice = sym choice i; next = sym next i; table = sym table i; counts = b.counts; schema = sym schema i }) (record {
    chooses = p.chooses;
    plan_is = p.plan_is;
    counts_are = λ f. same f ∙ p.counts_are f;
    schema_is = p.schema_is;
    next_is = p.next_is;
  })

  pub cut_behind : PlansBehind total first files asked rows a → PlansBehind total first files asked rows b
  cut_behind p = subst (λ (q : OpeningPlan). PlansBehind total first files asked rows q) (λ i. record { choice = sym choice i; next = sym next i; table = sym table i; counts = b.counts; schema = sym schema i }) (record {
    begins = p.begins;
    point_is = p.point_is;
    lives = p.lives;
    plan_is = p.plan_is;
    counts_are = λ f. same f ∙ p.counts_are f;
    schema_is = p.schema_is;
    next_is = p.next_is;
  })
