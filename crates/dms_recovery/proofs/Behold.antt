-- A database that is looked at behind calls that only read.
use Rattle.std.proofs.Common.{ℕ, ◌≡◌, ◌∙◌, IsTrue, List, subst}
use Rattle.dms_history.specs.declared.event.Row.{Row}
use Rattle.dms_opening.specs.Openings.{IsTrailFound}
use Rattle.dms_opening.specs.Whole.{StaysRead}
use Rattle.dms_opening.proofs.Reading.{stays_on}
use Rattle.dms_site.specs.declared.site.Site.{Ghosts}
use Rattle.dms_site.specs.Files.{Files}
use Rattle.dms_recovery.specs.Claims.{PlansWanted}
use Rattle.dms_recovery.specs.Looked.{IsLookedFor}
use Rattle.dms_recovery.specs.declared.looking.PlannedRestore.{PlannedRestore}
use Rattle.dms_recovery.specs.declared.wanted.Wanted.{Wanted}

pub looked_on : {S : Type 0} (g : Ghosts S) → ((r s t : S) → g.same_site r s → g.same_site s t → g.same_site r t) → (a b : S) → StaysRead g a b → g.disk_faults b ≡ g.disk_faults a → (wanted : Wanted) (rows : List Row) (p : PlannedRestore S)
    → IsLookedFor g b wanted rows p → IsLookedFor g a wanted rows p
looked_on g same_then a b stays clean wanted rows p l = record {
  starts = l.starts;
  trail = λ tells. subst (λ (f : Files). IsTrailFound p.log.end.total p.log.first f) (stays.files tells) (l.trail tells);
  plans = λ tells. subst (λ (f : Files). PlansWanted p.log.end.total p.log.first f wanted rows p.before p.own) (stays.files tells) (l.plans tells);
  stays = stays_on g same_then a b p.log.site stays l.stays;
  clean = l.clean ∙ clean;
}
