-- What was looked at, and what was carried out of it, as an opening.
use Rattle.std.proofs.Common.{ℕ, ◌≤◌, ◌≡◌, inl, inr, List, cond, Some, None, refl, sym, ap, subst}
use Rattle.std.specs.Global.{Vec}
use Rattle.std.specs.declared.option.Option.{Option}
use Rattle.dms_moments.specs.Moments.{Now, Runs, Steps}
use Rattle.dms_moments.specs.MomentLaws.{runs_on}
use Rattle.dms_site.specs.declared.site.Site.{Ghosts}
use Rattle.dms_site.specs.Files.{Files, Left, Same}
use Rattle.dms_audfile.specs.Counting.{CountedAt}
use Rattle.dms_audfile.specs.declared.fault.AudFault.TheVariants as aud
use Rattle.dms_running.specs.Telling.{Telling}
use Rattle.dms_running.specs.Standing.{IsWhole}
use Rattle.dms_opening.specs.declared.choosing.OpenFault.{OpenFault}
use Rattle.dms_restore.specs.Laying.{IsAtStart}
use Rattle.dms_restore.specs.Logging.{LogView, telling_of, telling}
use Rattle.dms_restore.specs.Views.{view_of}
use Rattle.dms_wal.specs.Marks.{IsDescription}
use Rattle.dms_opening.specs.declared.looking.PlannedOpening.{PlannedOpening}
use Rattle.dms_opening.specs.declared.opened.Opened.{Opened}
use Rattle.dms_opening.specs.Carrying.{IsPlanned}
use Rattle.dms_opening.specs.Openings.{IsTrailFound, NamesStructures, OpensAt, RunsFrom, Reopens, ReopensSince, text_of, RefusesFiles, CanOpen, MayHaveWritten}
use Rattle.dms_opening.specs.Plans.{Plans}
use Rattle.dms_opening.proofs.OneTrail.{one_first, one_total, unchanged}

-- a call behind others that didn't fail
pub counted_on : (P : Type 0) (start before now : ℕ) → before ≡ start → CountedAt P before now → CountedAt P start now
counted_on P start before now same c = subst (λ n. CountedAt P n now) same c

pub may_refuse : (files : Files) (fault : OpenFault) → MayHaveWritten fault → RefusesFiles files fault
may_refuse files fault (inl disk) = inl (aud.Disk, disk, tt)
may_refuse files fault (inr full) = inr (inr full)

-- what was planned is an opening
module _ {S : Type 0} (files : Files) (p : PlannedOpening S) where
  pub planned_opens : IsTrailFound p.log.end.total p.log.first files → Plans p.log.end.total p.log.first files p.plan → NamesStructures p.plan.schema.items p.plan.counts.items
      → OpensAt p.log.end.total p.log.first files p.plan.choice.point p.plan.next p.plan.schema.items p.plan.counts.items
  planned_opens trail plans named = record {
    trail = trail;
    choice = p.plan.choice;
    chooses = plans.chooses;
    point_is = refl;
    next_is = plans.next_is;
    schema_is = plans.schema_is;
    counts_are = plans.counts_are;
    named = named;
  }

  pub can_open : IsTrailFound p.log.end.total p.log.first files → Plans p.log.end.total p.log.first files p.plan → NamesStructures p.plan.schema.items p.plan.counts.items → IsDescription p.plan.schema.items → CanOpen files
  can_open trail plans named described = record {
    total = p.log.end.total;
    first = p.log.first;
    point = p.plan.choice.point;
    next = p.plan.next;
    schema = p.plan.schema.items;
    counts = p.plan.counts.items;
    opens = planned_opens trail plans named;
    described = described;
  }

-- the plan of an opening is what it does
module _ {S : Type 0} (files : Files) (p : PlannedOpening S) (o : Opened S) (total : o.log.end.total ≡ p.log.end.total) (first : o.log.first ≡ p.log.first)
    (point : o.point ≡ p.plan.choice.point) (next : o.next ≡ p.plan.next) (schema : o.schema ≡ p.plan.schema) (counts : o.counts ≡ p.plan.counts) where
  pub opens_at : IsTrailFound p.log.end.total p.log.first files → Plans p.log.end.total p.log.first files p.plan → NamesStructures p.plan.schema.items p.plan.counts.items
      → OpensAt o.log.end.total o.log.first files o.point o.next o.schema.items o.counts.items
  opens_at trail plans named =
      subst (λ n. OpensAt n o.log.first files o.point o.next o.schema.items o.counts.items) (sym total)
      (subst (λ n. OpensAt p.log.end.total n files o.point o.next o.schema.items o.counts.items) (sym first)
      (subst (λ n. OpensAt p.log.end.total p.log.first files n o.next o.schema.items o.counts.items) (sym point)
      (subst (λ n. OpensAt p.log.end.total p.log.first files p.plan.choice.point n o.schema.items o.counts.items) (sym next)
      (subst (λ (v : Vec ℕ). OpensAt p.log.end.total p.log.first files p.plan.choice.point p.plan.next v.items o.counts.items) (sym schema)
      (subst (λ (v : Vec ℕ). OpensAt p.log.end.total p.log.first files p.plan.choice.point p.plan.next p.plan.schema.items v.items) (sym counts) (planned_opens files p trail plans named))))))

  pub runs_at : (now : Files) (v : LogView) → now ≡ files → RunsFrom now p.plan.choice.point p.plan.next p.plan.schema.items p.plan.counts.items v → RunsFrom files o.point o.next o.schema.items o.counts.items v
  runs_at now v same r =
      subst (λ (f : Files). RunsFrom f o.point o.next o.schema.items o.counts.items v) same
      (subst (λ n. RunsFrom now n o.next o.schema.items o.counts.items v) (sym point)
      (subst (λ n. RunsFrom now p.plan.choice.point n o.schema.items o.counts.items v) (sym next)
      (subst (λ (w : Vec ℕ). RunsFrom now p.plan.choice.point p.plan.next w.items o.counts.items v) (sym schema)
      (subst (λ (w : Vec ℕ). RunsFrom now p.plan.choice.point p.plan.next p.plan.schema.items w.items v) (sym counts) r))))

module _ {S : Type 0} (g : Ghosts S) (site : S) (p : PlannedOpening S) (same : g.files p.log.site ≡ g.files site) where
  -- what was looked at is planned
  pub is_planned : IsAtStart p.log.end p.log.first (g.files p.log.site) (g.clock p.log.site) → Plans p.log.end.total p.log.first (g.files site) p.plan → IsPlanned (view_of g p.log) p.plan
  is_planned starts plans = record { start = starts; plans = subst (λ (f : Files). Plans p.log.end.total p.log.first f p.plan) (sym same) plans }

  pub whole_at : (total first : ℕ) → total ≡ p.log.end.total → first ≡ p.log.first → IsWhole (telling_of total first) (g.files site) → IsWhole (telling (view_of g p.log)) (g.files p.log.site)
  whole_at total first one two w =
      subst (λ (f : Files). IsWhole (telling (view_of g p.log)) f) (sym same)
      (subst (λ (t : Telling). IsWhole t (g.files site)) (λ i. telling_of (one i) (two i)) w)

  -- at every moment
  module _ (counts_now : (s : S) (t : ℕ) (x : Left) → t ≤ (g.clock s).now → Now (g.clock s) x → (g.clock s).left t x) (steps : Steps Same (g.clock site) (g.clock p.log.site)) (said : g.said p.log.site ≡ g.said site)
      (trail : IsTrailFound p.log.end.total p.log.first (g.files site)) (later : S) where
    pub since : (IsWhole (telling (view_of g p.log)) (g.files p.log.site) → Runs (g.clock p.log.site) (g.clock later) (Reopens (telling (view_of g p.log)) (g.files p.log.site) (text_of g p.log.site))) → ReopensSince g site later
    since run total first found whole =
        let one = one_total total first p.log.end.total p.log.first (g.files site) found trail in
        let two = one_first total first p.log.end.total p.log.first (g.files site) found trail in
        runs_on (unchanged (g.clock site) (g.clock p.log.site) (Reopens (telling_of total first) (g.files site) (text_of g site)) (counts_now site) steps) (run (whole_at total first one two whole)) (λ x r.
        subst (λ (s : Option (List ℕ)). Reopens (telling_of total first) (g.files site) s x) (ap (λ (l : List ℕ). cond g.tells_said (Some l) None) said)
        (subst (λ (f : Files). Reopens (telling_of total first) f (text_of g p.log.site) x) same
        (subst (λ (t : Telling). Reopens t (g.files p.log.site) (text_of g p.log.site) x) (λ i. telling_of (sym one i) (sym two i)) r)))

-- nothing changed
pub since_none : {S : Type 0} (g : Ghosts S) (counts_now : (s : S) (t : ℕ) (x : Left) → t ≤ (g.clock s).now → Now (g.clock s) x → (g.clock s).left t x) (site later : S) → Steps Same (g.clock site) (g.clock later) → ReopensSince g site later
since_none g counts_now site later steps total first found whole = unchanged (g.clock site) (g.clock later) (Reopens (telling_of total first) (g.files site) (text_of g site)) (counts_now site) steps
