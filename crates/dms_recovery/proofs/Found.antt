-- What the dumps of a trail are found to be, from one time of a site to a later one.
use Rattle.std.proofs.Common.{ℕ, ◌≡◌, inl, inr, List, Option, None, sym, ◌∙◌, ap, subst}
use Rattle.dms_site.specs.Files.{Files}
use Rattle.dms_history.specs.Entries.{Entry}
use Rattle.dms_history.specs.EntryEvents.{history_of}
use Rattle.dms_history.specs.declared.event.Row.{Row}
use Rattle.dms_audfile.specs.TrailEntries.{trail_entries}
use Rattle.dms_audfile.specs.declared.place.EntryPlace.{EntryPlace}
use Rattle.dms_restore.specs.declared.trace.TrailTrace.{TrailTrace}
use Rattle.dms_restore.specs.Tracing.{IsTraced}
use Rattle.dms_opening.specs.declared.asked.Asked.{Asked}
use Rattle.dms_opening.specs.declared.choosing.OpenFault.{OpenFault}
use Rattle.dms_opening.specs.declared.dump_looks.DumpFound.{DumpFound}
use Rattle.dms_opening.specs.declared.plan.OpeningPlan.{OpeningPlan}
use Rattle.dms_opening.specs.Behind.{PlansBehind, RefusesBehind}
use Rattle.dms_opening.specs.Choices.{judge_files}
use Rattle.dms_opening.specs.DumpLooks.{IsFoundAs, dump_begun, dump_asked}
use Rattle.dms_opening.specs.Plans.{AreFoundFor, IsPlainFault, IsTaggedRead}
use Rattle.dms_opening.proofs.OpeningPlans.{plain_plan, read_now}
use Rattle.dms_recovery.specs.Planned.{PlansAll, RefusesAll}

-- the same files and the same trace
pub found_on : (total first : ℕ) (files now : Files) (places : List EntryPlace) (t s : TrailTrace) (asked : Asked) (begun look : DumpFound) → now ≡ files → s ≡ t → AreFoundFor total first files places t asked begun look → AreFoundFor total first now places s asked begun look
found_on total first files now places t s asked begun look same trace r =
    subst (λ (k : TrailTrace). AreFoundFor total first now places k asked begun look) (sym trace) (subst (λ (f : Files). AreFoundFor total first f places t asked begun look) (sym same) r)

pub none_on : (total first : ℕ) (files now : Files) (asked : Asked) → now ≡ files → judge_files total first files asked ≡ None → judge_files total first now asked ≡ None
none_on total first files now asked same none = ap (λ (f : Files). judge_files total first f asked) same ∙ none

pub behind_at : (total first : ℕ) (files now : Files) (asked : Asked) (rows : List Row) (own : OpeningPlan) → now ≡ files → PlansBehind total first now asked rows own → PlansBehind total first files asked rows own
behind_at total first files now asked rows own same plans = subst (λ (f : Files). PlansBehind total first f asked rows own) same plans

pub refused_behind_at : (total first : ℕ) (files now : Files) (asked : Asked) (e : OpenFault) → now ≡ files → judge_files total first files asked ≡ None → RefusesBehind total first now asked e → RefusesAll total first files asked e
refused_behind_at total first files now asked e same none why = inr (none, subst (λ (f : Files). RefusesBehind total first f asked e) same why)

-- a call of the site failed, or memory was refused
pub plain_all : (total first : ℕ) (files : Files) (asked : Asked) (e : OpenFault) → IsPlainFault e → RefusesAll total first files asked e
plain_all total first files asked e plain = inl (plain_plan total first files asked e plain)

-- both dumps were looked at, one after the other
module _ (total tag first : ℕ) (files middle now : Files) (places : List EntryPlace) (t : TrailTrace) (asked : Asked) (begun look : DumpFound) (same : middle ≡ files) (still : now ≡ middle) (r : IsTaggedRead total tag first files places t)
    (begun_is : (older : Files) (es : List Entry) → IsTraced older es t.history → IsFoundAs tag (dump_begun files (history_of es).pending) begun) (look_is : IsFoundAs tag (dump_asked middle asked) look) where
  there : AreFoundFor total first files places t asked begun look
  there = record {
    read = r.read;
    begun_is = subst (λ k. IsFoundAs k (dump_begun files (history_of (trail_entries total first files)).pending) begun) (sym r.tag_is) (begun_is files (trail_entries total first files) (read_now total first files places t r.read).history);
    look_is = subst (λ k. IsFoundAs k (dump_asked files asked) look) (sym r.tag_is) (subst (λ (f : Files). IsFoundAs tag (dump_asked f asked) look) same look_is);
  }

  pub found_both : AreFoundFor total first now places t asked begun look
  found_both = subst (λ (f : Files). AreFoundFor total first f places t asked begun look) (sym (still ∙ same)) there

-- back to the files before both looks
pub all_back : (total first : ℕ) (files middle now : Files) (asked : Asked) (rows : List Row) (before : Option OpeningPlan) (own : OpeningPlan) → middle ≡ files → now ≡ middle → PlansAll total first now asked rows before own → PlansAll total first files asked rows before own
all_back total first files middle now asked rows before own same still plans = subst (λ (f : Files). PlansAll total first f asked rows before own) (still ∙ same) plans

pub refused_back : (total first : ℕ) (files middle now : Files) (asked : Asked) (e : OpenFault) → middle ≡ files → now ≡ middle → RefusesAll total first now asked e → RefusesAll total first files asked e
refused_back total first files middle now asked e same still why = subst (λ (f : Files). RefusesAll total first f asked e) (still ∙ same) why
