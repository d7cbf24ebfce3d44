-- A database that is only looked at, and what is carried out behind it.
use Rattle.std.proofs.Common.{ℕ, ◌≤◌, ◌≡◌, ◌≢◌, ◌∙◌, inl, inr, IsTrue, List, Some, None, cond, refl, sym, ap, subst}
use Rattle.dms_moments.specs.Moments.{Clock, Now, Runs, Steps}
use Rattle.dms_moments.specs.MomentLaws.{runs_on, steps_on, steps_weaken}
use Rattle.dms_moments.specs.SeenLaws.{runs_looking}
use Rattle.dms_site.specs.declared.site.Site.{Ghosts}
use Rattle.dms_site.specs.Files.{Files, Left, Same}
use Rattle.dms_audfile.specs.Reads.{ReadsAlone}
use Rattle.dms_audfile.specs.declared.fault.AudFault.TheVariants as aud
use Rattle.dms_running.specs.Standing.{IsWhole}
use Rattle.dms_restore.specs.GrowLaws.{leaves_none, left_on}
use Rattle.dms_restore.specs.Logging.{LeavesTrail, TrailKept, telling_of}
use Rattle.dms_restore.specs.Views.{view_of, LogStarts}
use Rattle.dms_opening.specs.declared.choosing.OpenFault.{OpenFault}
use Rattle.dms_opening.specs.declared.choosing.OpenFault.TheVariants.{Audit}
use Rattle.dms_opening.specs.declared.looking.PlannedOpening.{PlannedOpening}
use Rattle.dms_opening.specs.declared.plan.OpeningPlan.{OpeningPlan}
use Rattle.dms_opening.specs.declared.whole.OpenRefusal.{OpenRefusal}
use Rattle.dms_opening.specs.declared.whole.OpenRefusal.TheVariants.{Fault, Short}
use Rattle.dms_opening.specs.Looking.{IsLookedAt}
use Rattle.dms_opening.specs.Openings.{IsTrailFound, IsFullFault, IsNoRefusal, IsOpenable, OpeningGrows, RefusesFiles, Reopens, ReopensSince, SealsFew, text_of}
use Rattle.dms_opening.specs.Plans.{IsPlainFault, Plans}
use Rattle.dms_opening.specs.Whole.{JudgesWhole, OnFault, RefusesWhole, StaysRead}
use Rattle.dms_opening.proofs.Complete.{refuses_none}
use Rattle.dms_opening.proofs.NoneShort.{whole_has_no_short}
use Rattle.dms_opening.proofs.OneTrail.{start_on}

pub looks_on : (a b c : Clock Left) → Steps Same a b → Steps Same b c → Steps Same a c
looks_on a b c one two = steps_on one two (λ x y z nx ny p q. q ∙ p) (λ x y nx p. p)

module _ {S : Type 0} (g : Ghosts S) where
  pub stays_on : (same_then : (r s t : S) → g.same_site r s → g.same_site s t → g.same_site r t) → (a b c : S) → StaysRead g a b → StaysRead g b c → StaysRead g a c
  stays_on same_then a b c one two = record {
    files = λ tells. two.files tells ∙ one.files tells;
    moments = looks_on (g.clock a) (g.clock b) (g.clock c) one.moments two.moments;
    said = two.said ∙ one.said;
    say_faults = two.say_faults ∙ one.say_faults;
    same = same_then a b c one.same two.same;
  }

  pub reads_stay : (a b : S) → ReadsAlone g a b → g.same_site a b → StaysRead g a b
  reads_stay a b r same = record { files = r.files_stay; moments = r.moments; said = r.text_stays; say_faults = r.say_faults; same = same }

  -- every moment, and the trail, behind calls that only read
  pub since_back : ((x : S) (t : ℕ) (l : Left) → t ≤ (g.clock x).now → Now (g.clock x) l → (g.clock x).left t l) → (a b c : S) → StaysRead g a b → IsTrue g.tells → ReopensSince g b c → ReopensSince g a c
  since_back counts a b c st tells since total first trail whole =
      let same = st.files tells in
      let run = since total first (subst (λ (f : Files). IsTrailFound total first f) (sym same) trail) (subst (λ (f : Files). IsWhole (telling_of total first) f) (sym same) whole) in
      let said : text_of g b ≡ text_of g a = ap (λ (l : List ℕ). cond g.tells_said (Some l) None) st.said in
      runs_on (runs_looking (counts a) st.moments)
      (subst (λ o. Runs (g.clock b) (g.clock c) (Reopens (telling_of total first) (g.files a) o)) said (subst (λ (f : Files). Runs (g.clock b) (g.clock c) (Reopens (telling_of total first) f (text_of g b))) same run)) (λ x p. p)

  pub grows_back : (a b c : S) → StaysRead g a b → IsTrue g.tells → OpeningGrows g b c → OpeningGrows g a c
  grows_back a b c st tells r =
      let same = st.files tells in
      record {
        kept = λ total first trail. subst (λ (f : Files). TrailKept total first f (g.files c)) same (r.kept total first (subst (λ (f : Files). IsTrailFound total first f) (sym same) trail));
        left = λ total first trail. left_on total first (g.clock a) (g.clock b) (g.clock c) (steps_weaken st.moments (λ x y now is. subst (λ (z : Left). LeavesTrail total first x z) (sym is) (leaves_none total first x)))
            (r.left total first (subst (λ (f : Files). IsTrailFound total first f) (sym same) trail));
        few = λ total first trail whole. subst (λ (f : Files). SealsFew total first f (g.files c)) same
            (r.few total first (subst (λ (f : Files). IsTrailFound total first f) (sym same) trail) (subst (λ (f : Files). IsWhole (telling_of total first) f) (sym same) whole));
      }

module _ {S : Type 0} (g : Ghosts S) (p : PlannedOpening S) (found now : S) where
  -- it is still looked at behind calls that only read
  pub looked_still : g.files p.log.site ≡ g.files found → g.files now ≡ g.files p.log.site → Steps Same (g.clock p.log.site) (g.clock now) → LogStarts (view_of g p.log) → IsTrailFound p.log.end.total p.log.first (g.files found)
      → Plans p.log.end.total p.log.first (g.files found) p.plan → IsLookedAt g (record { log = record { site = now; end = p.log.end; first = p.log.first }; plan = p.plan })
  looked_still one two steps starts trail plans = record {
    starts = start_on p.log.end p.log.first (g.files p.log.site) (g.files now) (g.clock p.log.site) (g.clock now) two steps starts;
    trail = subst (λ (f : Files). IsTrailFound p.log.end.total p.log.first f) (sym (two ∙ one)) trail;
    plans = subst (λ (f : Files). Plans p.log.end.total p.log.first f p.plan) (sym (two ∙ one)) plans;
  }

-- ---- refusals

pub plain_refuses : (files : Files) (fault : OpenFault) → IsPlainFault fault → RefusesFiles files fault
plain_refuses files fault (inl disk) = inl (aud.Disk, disk, tt)
plain_refuses files fault (inr memory) = inl (aud.Memory, memory, tt)

-- what is judged behind a plan is a refusal of the files
pub whole_refuses : (total first : ℕ) (files : Files) (plan : OpeningPlan) (refusal : OpenRefusal) → IsTrailFound total first files → Plans total first files plan → JudgesWhole files plan refusal → RefusesWhole files refusal
whole_refuses total first files plan (Fault fault) trail plans j = plain_refuses files fault j
whole_refuses total first files plan (Short f b) trail plans j = (record { total = total; first = first; trail = trail; plan = plan; plans = plans }, j)

same_fault : (f h : OpenFault) → Fault f ≡ Fault h → f ≡ h
same_fault f h is = cc

pub no_full : (fault : OpenFault) → (fault ≡ Audit (aud.Full 9999) → ⊥) → Fault fault ≢ Fault (Audit (aud.Full 9999))
no_full fault room is = room (same_fault fault (Audit (aud.Full 9999)) is)

pub plain_room : (fault : OpenFault) → IsPlainFault fault → fault ≡ Audit (aud.Full 9999) → ⊥
plain_room fault (inl disk) is = apart (sym disk ∙ is)
  where
    apart : Audit aud.Disk ≡ Audit (aud.Full 9999) → ⊥
    apart e = absurd cc
plain_room fault (inr memory) is = apart (sym memory ∙ is)
  where
    apart : Audit aud.Memory ≡ Audit (aud.Full 9999) → ⊥
    apart e = absurd cc

pub judged_no_full : (files : Files) (plan : OpeningPlan) (refusal : OpenRefusal) → JudgesWhole files plan refusal → refusal ≢ Fault (Audit (aud.Full 9999))
judged_no_full files plan (Fault fault) j is = no_full fault (plain_room fault j) is
judged_no_full files plan (Short f b) j is = absurd cc

-- files that hold a database aren't refused
pub whole_complete : (files : Files) (refusal : OpenRefusal) → RefusesWhole files refusal → (total first : ℕ) → IsOpenable total first files → OnFault refusal IsNoRefusal
whole_complete files (Fault fault) r total first o = refuses_none total first files fault o r
whole_complete files (Short f b) r total first o = whole_has_no_short total first files o.trail o.whole r.0 f b r.1.is

-- a refusal that isn't a full audit
pub not_full : (refusal : OpenRefusal) → refusal ≢ Fault (Audit (aud.Full 9999)) → OnFault refusal IsFullFault → ⊥
not_full (Fault fault) other full = other (ap Fault full)
not_full (Short f b) other full = full
