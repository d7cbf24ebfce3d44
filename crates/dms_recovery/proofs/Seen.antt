-- What was carried out of a database that was looked at, as its site shows it.
use Rattle.std.proofs.lemmas.Option.{none-some}
use Rattle.std.proofs.Common.{ℕ, ◌+◌, ◌≤◌, ◌≡◌, List, [], Option, Some, None, length, refl, sym, ◌∙◌, ap, subst, arith, length-append}
use Rattle.dms_moments.specs.Moments.{Now, Runs, Steps}
use Rattle.dms_moments.specs.MomentLaws.{runs_on, steps_on, steps_weaken}
use Rattle.dms_site.specs.declared.site.Site.{Ghosts}
use Rattle.dms_site.specs.Files.{Files, Left, Only, Same, stored_of}
use Rattle.dms_history.specs.History.{Pending}
use Rattle.dms_history.specs.Entries.{Entry, Kind, named_by}
use Rattle.dms_history.specs.EntryEvents.{history_of}
use Rattle.dms_history.specs.declared.event.Row.{Row}
use Rattle.dms_audfile.specs.TrailEntries.{trail_entries}
use Rattle.dms_running.specs.AnyBegun.{BeginLeaves}
use Rattle.dms_running.specs.Running.{IsAnOutcome}
use Rattle.dms_running.specs.Standing.{IsWhole}
use Rattle.dms_running.specs.Telling.{Telling}
use Rattle.dms_restore.specs.GrowLaws.{kept_none, leaves_none}
use Rattle.dms_restore.specs.Logging.{FilesGrew, LeavesTrail, LogView, TrailKept, telling_of, telling, state, waits}
use Rattle.dms_restore.specs.Views.{view_of, LogStarts}
use Rattle.dms_restore.proofs.Trails.{waits_is}
use Rattle.dms_opening.specs.Carrying.{MayBegin, RunsTo}
use Rattle.dms_opening.specs.declared.asked.Asked.{Asked}
use Rattle.dms_opening.specs.declared.asked.Asked.TheVariants.{Reconstruct, Rollback}
use Rattle.dms_opening.specs.declared.plan.OpeningPlan.{OpeningPlan}
use Rattle.dms_opening.specs.Doing.{kind_asked, point_asked}
use Rattle.dms_opening.specs.Openings.{IsTrailFound}
use Rattle.dms_opening.proofs.OneTrail.{one_first, one_total, unchanged}
use Rattle.dms_recovery.specs.declared.looking.PlannedRestore.{PlannedRestore}
use Rattle.dms_recovery.specs.declared.wanted.Wanted.{Wanted}
use Rattle.dms_recovery.specs.declared.wanted.Wanted.TheVariants as wants
use Rattle.dms_recovery.specs.Leaving.{HoldsUpTo, IsMendedFrom, MendsTo, RestoresTo, RollsTo}
use Rattle.dms_recovery.specs.Mending.{MendsAll}
use Rattle.dms_recovery.specs.Planned.{PlansAlone, PlansAll}
use Rattle.dms_recovery.specs.Ready.{AreReady}
use Rattle.dms_recovery.specs.Refusing.{RecoveryGrows, SealsFewTwice}
use Rattle.dms_recovery.specs.Restoring.{MayRestore}
use Rattle.dms_recovery.specs.Rolling.{RollsAll}
use Rattle.dms_recovery.specs.Wanting.{asked_for, last_of}
use Rattle.dms_recovery.proofs.Answered.{own_point}
use Rattle.dms_recovery.proofs.Beginning.{restores_to}
use Rattle.dms_recovery.proofs.Ended.{holds_up_to}
use Rattle.dms_recovery.proofs.Rounds.{all_ready, asked_is, before_none, may_begin}

some_is : (m n : ℕ) → Some m ≡ Some n → m ≡ n
some_is m n is = cc

module _ {S : Type 0} (g : Ghosts S) (site : S) (p : PlannedRestore S) (same : g.files p.log.site ≡ g.files site) (trail : IsTrailFound p.log.end.total p.log.first (g.files site)) (starts : LogStarts (view_of g p.log)) (wanted : Wanted) (rows : List Row)
    (plans : PlansAll p.log.end.total p.log.first (g.files site) (asked_for p.log.end.total p.log.first (g.files site) wanted) rows p.before p.own) where
  abbrev v : LogView
  v = view_of g p.log

  plans_here : PlansAll p.log.end.total p.log.first (g.files p.log.site) (asked_for p.log.end.total p.log.first (g.files p.log.site) wanted) rows p.before p.own
  plans_here = subst (λ (x : Files). PlansAll p.log.end.total p.log.first x (asked_for p.log.end.total p.log.first x wanted) rows p.before p.own) (sym same) plans

  -- it is ready
  pub ready_here : AreReady (view_of g p.log) p.before p.own
  ready_here = all_ready v (asked_for p.log.end.total p.log.first (g.files p.log.site) wanted) rows p.before p.own starts plans_here

  -- of files of a database, of which this restore goes first
  module _ (t f : ℕ) (u : Files) (may : MayRestore t f (g.files site) u wanted rows) where
    one : t ≡ p.log.end.total
    one = one_total t f p.log.end.total p.log.first (g.files site) may.trail trail

    two : f ≡ p.log.first
    two = one_first t f p.log.end.total p.log.first (g.files site) may.trail trail

    may_here : MayRestore p.log.end.total p.log.first (g.files p.log.site) u wanted rows
    may_here =
        subst (λ (x : Files). MayRestore p.log.end.total p.log.first x u wanted rows) (sym same)
        (subst (λ n. MayRestore p.log.end.total n (g.files site) u wanted rows) two (subst (λ n. MayRestore n f (g.files site) u wanted rows) one may))

    abbrev asked : Asked
    asked = asked_for p.log.end.total p.log.first (g.files p.log.site) wanted

    alone : (p.before ≡ None) × PlansAlone p.log.end.total p.log.first (g.files p.log.site) asked rows p.own
    alone = before_none p.log.end.total p.log.first (g.files p.log.site) asked rows p.before p.own plans_here may_here.none

    pub none_before : p.before ≡ None
    none_before = alone.0

    pub may_begin_here : (kind : Kind) → kind ≡ kind_asked (asked_for p.log.end.total p.log.first (g.files p.log.site) wanted) rows → MayBegin (view_of g p.log) (stored_of u) kind p.own
    may_begin_here kind is = subst (λ (k : Kind). MayBegin v (stored_of u) k p.own) (sym is) (may_begin v u starts wanted rows p.own may_here alone.1)

    -- the point that is asked for
    point_here : (n : ℕ) → point_asked (asked_for t f (g.files site) wanted) (last_of t f (g.files site)) ≡ Some n → n ≡ p.own.choice.point
    point_here n is =
        some_is n p.own.choice.point
        (sym is ∙ (λ i. point_asked (asked_for (one i) (two i) (sym same i) wanted) (last_of (one i) (two i) (sym same i))) ∙ asked_is v u starts wanted rows p.own may_here alone.1)

    tells : telling v ≡ telling_of t f
    tells = λ i. telling_of (sym one i) (sym two i)

    -- the database is restored
    module _ (later : S) (w : LogView) (total : w.end.total ≡ p.log.end.total) (first : w.first ≡ p.log.first) (kind : Kind) (runs : RunsTo (view_of g p.log) (stored_of u) kind p.own w) (read : IsAnOutcome (state w)) where
      pub ends_here : (point : ℕ) → point ≡ p.own.choice.point → HoldsUpTo (telling_of t f) u point w.files × Only w.files w.clock
      ends_here point is = (
        subst (λ n. HoldsUpTo (telling_of t f) u n w.files) (sym is)
            (subst (λ (k : Telling). HoldsUpTo k u p.own.choice.point w.files) tells (holds_up_to v w u starts may_here.same may_here.whole kind p.own alone.1.plan.next_is total first runs read)),
        runs.only,
      )

    -- at every moment
    pub leaves_here : (n : ℕ) (later : S) → point_asked (asked_for t f (g.files site) wanted) (last_of t f (g.files site)) ≡ Some n → ((s : S) (k : ℕ) (x : Left) → k ≤ (g.clock s).now → Now (g.clock s) x → (g.clock s).left k x) → Steps Same (g.clock site) (g.clock p.log.site)
        → Runs (g.clock p.log.site) (g.clock later) (BeginLeaves (telling v) (state v) (stored_of u) p.own.choice.point) → Runs (g.clock site) (g.clock later) (RestoresTo (telling_of t f) (g.files site) u n)
    leaves_here n later is counts_now steps run =
        runs_on (unchanged (g.clock site) (g.clock p.log.site) (RestoresTo (telling_of t f) (g.files site) u n) (counts_now site) steps) run (λ x leaves.
        subst (λ k. RestoresTo (telling_of t f) (g.files site) u k x) (sym (point_here n is))
        (subst (λ (y : Files). RestoresTo (telling_of t f) y u p.own.choice.point x) same
        (subst (λ (k : Telling). RestoresTo k v.files u p.own.choice.point x) tells (restores_to v u starts may_here.same may_here.whole p.own.choice.point x leaves))))

  -- ---- the point that is asked for, whatever the files hold

  pub point_of_trail : (t f : ℕ) → IsTrailFound t f (g.files site) → (n : ℕ) → point_asked (asked_for t f (g.files site) wanted) (last_of t f (g.files site)) ≡ Some n → p.own.choice.point ≡ n
  point_of_trail t f found n is =
      let one = one_total t f p.log.end.total p.log.first (g.files site) found trail in
      let two = one_first t f p.log.end.total p.log.first (g.files site) found trail in
      sym (some_is n p.own.choice.point
      (sym is ∙ (λ i. point_asked (asked_for (one i) (two i) (g.files site) wanted) (last_of (one i) (two i) (g.files site)))
      ∙ own_point p.log.end.total p.log.first (g.files site) (asked_for p.log.end.total p.log.first (g.files site) wanted) rows p.before p.own plans))

  -- ---- a rollback behind a restore that is pending

  rolls_all : (n : ℕ) (q : Pending) (before : Option OpeningPlan) → IsWhole (telling v) v.files → (history_of (trail_entries p.log.end.total p.log.first (g.files p.log.site))).pending ≡ Some q
      → PlansAll p.log.end.total p.log.first (g.files p.log.site) (Rollback n) [] before p.own → RollsAll v (Rollback n) before p.own
  rolls_all n q None whole pending all = absurd (none-some q (sym (all.plan.chooses.is.new all.begins).0 ∙ pending))
  rolls_all n q (Some before) whole pending all = record { start = starts; whole = whole; plans = all; kind_is = refl }

  module _ (t f n : ℕ) (q : Pending) (found : IsTrailFound t f (g.files site)) (pending : (history_of (trail_entries t f (g.files site))).pending ≡ Some q) (whole : IsWhole (telling_of t f) (g.files site)) (is : wanted ≡ wants.Rollback n) (none : rows ≡ []) where
    one_t : t ≡ p.log.end.total
    one_t = one_total t f p.log.end.total p.log.first (g.files site) found trail

    one_f : f ≡ p.log.first
    one_f = one_first t f p.log.end.total p.log.first (g.files site) found trail

    pub rolls_here : RollsAll (view_of g p.log) (Rollback n) p.before p.own
    rolls_here = rolls_all n q p.before
        (subst (λ (x : Files). IsWhole (telling v) x) (sym same) (subst (λ (k : Telling). IsWhole k (g.files site)) (λ i. telling_of (one_t i) (one_f i)) whole))
        ((λ i. (history_of (trail_entries (sym one_t i) (sym one_f i) (same i))).pending) ∙ pending)
        (subst (λ (l : List Row). PlansAll p.log.end.total p.log.first (g.files p.log.site) (Rollback n) l p.before p.own) none
        (subst (λ (w : Wanted). PlansAll p.log.end.total p.log.first (g.files p.log.site) (asked_for p.log.end.total p.log.first (g.files p.log.site) w) rows p.before p.own) is plans_here))

    point_rolled : p.own.choice.point ≡ n
    point_rolled = point_of_trail t f found n (ap (λ (w : Wanted). point_asked (asked_for t f (g.files site) w) (last_of t f (g.files site))) is)

    tells_rolled : telling v ≡ telling_of t f
    tells_rolled = λ i. telling_of (sym one_t i) (sym one_f i)

    pub rolled_here : (later : S) → HoldsUpTo (telling (view_of g p.log)) (g.files p.log.site) p.own.choice.point (g.files later) × Only (g.files later) (g.clock later) → HoldsUpTo (telling_of t f) (g.files site) n (g.files later) × Only (g.files later) (g.clock later)
    rolled_here later done = (
      subst (λ k. HoldsUpTo (telling_of t f) (g.files site) k (g.files later)) point_rolled
          (subst (λ (x : Files). HoldsUpTo (telling_of t f) x p.own.choice.point (g.files later)) same (subst (λ (k : Telling). HoldsUpTo k (g.files p.log.site) p.own.choice.point (g.files later)) tells_rolled done.0)),
      done.1,
    )

    pub rolls_since : (later : S) → ((s : S) (k : ℕ) (x : Left) → k ≤ (g.clock s).now → Now (g.clock s) x → (g.clock s).left k x) → Steps Same (g.clock site) (g.clock p.log.site)
        → Runs (g.clock p.log.site) (g.clock later) (RollsTo (telling (view_of g p.log)) (g.files p.log.site) p.own.choice.point) → Runs (g.clock site) (g.clock later) (RollsTo (telling_of t f) (g.files site) n)
    rolls_since later counts_now steps run =
        runs_on (unchanged (g.clock site) (g.clock p.log.site) (RollsTo (telling_of t f) (g.files site) n) (counts_now site) steps) run (λ x leaves.
        subst (λ k. RollsTo (telling_of t f) (g.files site) k x) point_rolled
        (subst (λ (y : Files). RollsTo (telling_of t f) y p.own.choice.point x) same
        (subst (λ (k : Telling). RollsTo k (g.files p.log.site) p.own.choice.point x) tells_rolled leaves)))

  -- ---- a reconstruction behind a restore that is pending

  mends_all : (u : Files) (d : ℕ) (q : Pending) (before : Option OpeningPlan) → IsMendedFrom p.log.end.total p.log.first (g.files p.log.site) u d (named_by rows)
      → (history_of (trail_entries p.log.end.total p.log.first (g.files p.log.site))).pending ≡ Some q → PlansAll p.log.end.total p.log.first (g.files p.log.site) (Reconstruct d) rows before p.own → MendsAll v u d rows before p.own
  mends_all u d q None mended pending all = absurd (none-some q (sym (all.plan.chooses.is.new all.begins).0 ∙ pending))
  mends_all u d q (Some before) mended pending all = record { start = starts; mended = mended; plans = all }

  module _ (t f n d : ℕ) (q : Pending) (u : Files) (found : IsTrailFound t f (g.files site)) (pending : (history_of (trail_entries t f (g.files site))).pending ≡ Some q) (last : last_of t f (g.files site) ≡ Some n)
      (mended : IsMendedFrom t f (g.files site) u d (named_by rows)) (is : wanted ≡ wants.Reconstruct d) where
    total_is : t ≡ p.log.end.total
    total_is = one_total t f p.log.end.total p.log.first (g.files site) found trail

    first_is : f ≡ p.log.first
    first_is = one_first t f p.log.end.total p.log.first (g.files site) found trail

    pub mends_here : MendsAll (view_of g p.log) u d rows p.before p.own
    mends_here = mends_all u d q p.before
        (subst (λ (x : Files). IsMendedFrom p.log.end.total p.log.first x u d (named_by rows)) (sym same)
        (subst (λ k. IsMendedFrom p.log.end.total k (g.files site) u d (named_by rows)) first_is (subst (λ k. IsMendedFrom k f (g.files site) u d (named_by rows)) total_is mended)))
        ((λ i. (history_of (trail_entries (sym total_is i) (sym first_is i) (same i))).pending) ∙ pending)
        (subst (λ (w : Wanted). PlansAll p.log.end.total p.log.first (g.files p.log.site) (asked_for p.log.end.total p.log.first (g.files p.log.site) w) rows p.before p.own) is plans_here)

    point_mended : p.own.choice.point ≡ n
    point_mended = point_of_trail t f found n (ap (λ (w : Wanted). point_asked (asked_for t f (g.files site) w) (last_of t f (g.files site))) is ∙ last)

    tells_mended : telling v ≡ telling_of t f
    tells_mended = λ i. telling_of (sym total_is i) (sym first_is i)

    pub mended_here : (later : S) → HoldsUpTo (telling (view_of g p.log)) u p.own.choice.point (g.files later) × Only (g.files later) (g.clock later) → HoldsUpTo (telling_of t f) u n (g.files later) × Only (g.files later) (g.clock later)
    mended_here later done = (subst (λ k. HoldsUpTo (telling_of t f) u k (g.files later)) point_mended (subst (λ (k : Telling). HoldsUpTo k u p.own.choice.point (g.files later)) tells_mended done.0), done.1)

    pub mends_since : (later : S) → ((s : S) (k : ℕ) (x : Left) → k ≤ (g.clock s).now → Now (g.clock s) x → (g.clock s).left k x) → Steps Same (g.clock site) (g.clock p.log.site)
        → Runs (g.clock p.log.site) (g.clock later) (MendsTo (telling (view_of g p.log)) (g.files p.log.site) u (named_by rows) p.own.choice.point) → Runs (g.clock site) (g.clock later) (MendsTo (telling_of t f) (g.files site) u (named_by rows) n)
    mends_since later counts_now steps run =
        runs_on (unchanged (g.clock site) (g.clock p.log.site) (MendsTo (telling_of t f) (g.files site) u (named_by rows) n) (counts_now site) steps) run (λ x leaves.
        subst (λ k. MendsTo (telling_of t f) (g.files site) u (named_by rows) k x) point_mended
        (subst (λ (y : Files). MendsTo (telling_of t f) y u (named_by rows) p.own.choice.point x) same
        (subst (λ (k : Telling). MendsTo k (g.files p.log.site) u (named_by rows) p.own.choice.point x) tells_mended leaves)))

  -- ---- the trail grows

  left_same : (t f : ℕ) (x y : Left) → y ≡ x → LeavesTrail t f x y
  left_same t f x y is = subst (λ (z : Left). LeavesTrail t f x z) (sym is) (leaves_none t f x)

  -- what holds of one trail of its files holds of each
  of_each : (P : ℕ → ℕ → Type 0) (t f : ℕ) → IsTrailFound t f (g.files site) → P p.log.end.total p.log.first → P t f
  of_each P t f found is =
      subst (λ k. P k f) (sym (one_total t f p.log.end.total p.log.first (g.files site) found trail)) (subst (λ k. P p.log.end.total k) (sym (one_first t f p.log.end.total p.log.first (g.files site) found trail)) is)

  few_since : (files : Files) → FilesGrew 38 v files → length (trail_entries p.log.end.total p.log.first files) ≤ length (trail_entries p.log.end.total p.log.first (g.files p.log.site)) + 38
  few_since files few =
      let none : length (waits p.log.end) ≡ 0 = ap (λ (l : List Entry). length l) (waits_is p.log.end p.log.first _ _ _ starts.ends) in
      omega (arith, few, none, length-append (trail_entries p.log.end.total p.log.first (g.files p.log.site)) (waits p.log.end))

  pub grows_here : (later : S) → Steps Same (g.clock site) (g.clock p.log.site) → TrailKept p.log.end.total p.log.first (g.files p.log.site) (g.files later) → Steps (LeavesTrail p.log.end.total p.log.first) (g.clock p.log.site) (g.clock later)
      → FilesGrew 38 (view_of g p.log) (g.files later) → RecoveryGrows g site later
  grows_here later steps kept left few = record {
    kept = λ t f found. of_each (λ a b. TrailKept a b (g.files site) (g.files later)) t f found (subst (λ (x : Files). TrailKept p.log.end.total p.log.first x (g.files later)) same kept);
    left = λ t f found. of_each (λ a b. Steps (LeavesTrail a b) (g.clock site) (g.clock later)) t f found
        (steps_on steps left (λ x y z nx ny is leaves. subst (λ (k : Left). LeavesTrail p.log.end.total p.log.first k z) is leaves) (λ x y nx is. left_same p.log.end.total p.log.first x y is));
    few = λ t f found. of_each (λ a b. SealsFewTwice a b (g.files site) (g.files later)) t f found (subst (λ (x : Files). SealsFewTwice p.log.end.total p.log.first x (g.files later)) same (few_since (g.files later) few));
  }

-- nothing changed
pub grows_nothing : {S : Type 0} (g : Ghosts S) (old new : S) → g.files new ≡ g.files old → Steps Same (g.clock old) (g.clock new) → RecoveryGrows g old new
grows_nothing g old new same steps = record {
  kept = λ t f found. subst (λ (x : Files). TrailKept t f (g.files old) x) (sym same) (kept_none t f (g.files old));
  left = λ t f found. steps_weaken steps (λ x y now is. subst (λ (z : Left). LeavesTrail t f x z) (sym is) (leaves_none t f x));
  few = λ t f found. omega (arith, ap (λ (x : Files). length (trail_entries t f x)) same);
}
