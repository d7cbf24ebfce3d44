-- What is answered where a database was looked at, and what was planned was carried out.
use Rattle.std.proofs.Common.{ℕ, ◌≡◌, inl, inr, List, Option, Some, None, sym, ◌∙◌, subst}
use Rattle.std.proofs.lemmas.Option.{none-some}
use Rattle.dms_site.specs.Files.{Files}
use Rattle.dms_history.specs.declared.event.Row.{Row}
use Rattle.dms_audfile.specs.declared.fault.AudFault.TheVariants as aud
use Rattle.dms_opening.specs.declared.choosing.OpenFault.{OpenFault}
use Rattle.dms_opening.specs.declared.plan.OpeningPlan.{OpeningPlan}
use Rattle.dms_opening.specs.declared.asked.Asked.{Asked}
use Rattle.dms_opening.specs.Doing.{point_asked}
use Rattle.dms_opening.specs.Openings.{IsTrailFound, MayHaveWritten, IsNoRefusal}
use Rattle.dms_opening.specs.Plans.{RefusesFor}
use Rattle.dms_opening.proofs.Complete.{scans}
use Rattle.dms_opening.proofs.OneTrail.{one_first, one_total}
use Rattle.dms_recovery.specs.declared.wanted.Wanted.{Wanted}
use Rattle.dms_recovery.specs.Planned.{PlansAll, RefusesAll}
use Rattle.dms_recovery.specs.Refusing.{RefusesWanted, CanBeDone, MayBeDone}
use Rattle.dms_recovery.specs.Wanting.{asked_for, last_of}

-- a call of the site failed, or the audit had no room
pub written_refuses : (files : Files) (wanted : Wanted) (e : OpenFault) → MayHaveWritten e → RefusesWanted files wanted e
written_refuses files wanted e (inl disk) = inl (aud.Disk, disk, tt)
written_refuses files wanted e (inr full) = inr (inr full)

-- the point that is asked for
pub own_point : (total first : ℕ) (files : Files) (asked : Asked) (rows : List Row) (before : Option OpeningPlan) (own : OpeningPlan) → PlansAll total first files asked rows before own → point_asked asked (last_of total first files) ≡ Some own.choice.point
own_point total first files asked rows None own plans = (plans.plan.chooses.is.new plans.begins).1
own_point total first files asked rows (Some before) own plans = plans.own_plan.point_is

-- what is planned is refused by nothing
pub may_be_done : (total first : ℕ) (files : Files) (wanted : Wanted) (rows : List Row) (before : Option OpeningPlan) (own : OpeningPlan) → IsTrailFound total first files → PlansAll total first files (asked_for total first files wanted) rows before own → MayBeDone files wanted
may_be_done total first files wanted rows None own trail plans = record { total = total; first = first; trail = trail; none = plans.plan.chooses.none }
may_be_done total first files wanted rows (Some before) own trail plans = record { total = total; first = first; trail = trail; none = plans.first_plan.chooses.none }

-- where nothing is refused, nothing but a failed call, want of memory or of room keeps it from being done
module _ (total first : ℕ) (files : Files) (wanted : Wanted) (can : CanBeDone total first files wanted) (e : OpenFault) where
  abbrev asked : Asked
  asked = asked_for total first files wanted

  for_none : RefusesFor total first files asked e → IsNoRefusal e
  for_none why = elim why [
    | inl disk ↦ inl (inl disk)
    | inr rest ↦ elim rest [
      | inl judged ↦ elim judged [
        | inl memory ↦ inl (inr memory)
        | inr refused ↦ absurd (none-some refused.refusal (sym can.none ∙ refused.is))
      ]
      | inr gone ↦ absurd (can.described gone.1)
    ]
  ]

  all_none : RefusesAll total first files asked e → IsNoRefusal e
  all_none why = elim why [
    | inl own ↦ for_none own
    | inr behind ↦ elim behind.1 [ inl plain ↦ inl plain | inr gone ↦ absurd (can.described_own gone.1) ]
  ]

  pub nothing_refuses : RefusesWanted files wanted e → IsNoRefusal e
  nothing_refuses why = elim why [
    | inl scanned ↦ subst IsNoRefusal (sym scanned.1) (scans files can.trail.found.entries scanned.0 can.trail.found.trail scanned.2)
    | inr rest ↦ elim rest [
      | inl r ↦ all_none
          (subst (λ n. RefusesAll n first files (asked_for n first files wanted) e) (one_total r.total r.first total first files r.trail can.trail)
          (subst (λ n. RefusesAll r.total n files (asked_for r.total n files wanted) e) (one_first r.total r.first total first files r.trail can.trail) r.why))
      | inr full ↦ inr full
    ]
  ]
