-- Blocks that are missing are marked by both restores.
use Rattle.std.proofs.Common.{ℕ, ◌≡◌, List, Option, Some, None, sym, ◌∙◌, ap, subst}
use Rattle.dms_site.specs.declared.site.Site.{Ghosts}
use Rattle.dms_site.specs.Files.{Files, stored_of}
use Rattle.dms_history.specs.EntryEvents.{history_of}
use Rattle.dms_history.specs.History.{Pending}
use Rattle.dms_history.specs.declared.event.Row.{Row}
use Rattle.dms_audfile.specs.TrailEntries.{trail_entries}
use Rattle.dms_restore.specs.Logging.{LogView}
use Rattle.dms_restore.specs.Planned.{AreCountsAt}
use Rattle.dms_restore.specs.Views.{view_of, LogStarts}
use Rattle.dms_opening.specs.declared.asked.Asked.{Asked}
use Rattle.dms_opening.specs.declared.plan.OpeningPlan.{OpeningPlan}
use Rattle.dms_opening.specs.Behind.{restore_asked}
use Rattle.dms_opening.specs.Carrying.{WritesFor}
use Rattle.dms_opening.specs.Doing.{goes_first, point_asked}
use Rattle.dms_opening.specs.Marking.{KeepsOrMarks, whole_or_mark}
use Rattle.dms_opening.specs.Openings.{IsTrailFound}
use Rattle.dms_opening.proofs.Marked.{mark_twice}
use Rattle.dms_opening.proofs.OneTrail.{one_first, one_total}
use Rattle.dms_recovery.specs.declared.looking.PlannedRestore.{PlannedRestore}
use Rattle.dms_recovery.specs.declared.wanted.Wanted.{Wanted}
use Rattle.dms_recovery.specs.Marks.{MarksAll, MarksWanted, WritesAll, WritesCounted}
use Rattle.dms_recovery.specs.Planned.{PlansAll}
use Rattle.dms_recovery.specs.Wanting.{asked_for, last_of}
use Rattle.dms_recovery.proofs.Answered.{own_point}

-- one after the other
pub marks_twice : (q p : Pending) (x y z : Files) → KeepsOrMarks q x y → KeepsOrMarks p y z → MarksAll (Some q) p x z
marks_twice q p x y z one two f b first own = two f b own ∙ ap whole_or_mark (one f b first) ∙ mark_twice (stored_of x f b)

-- by whether one goes first
pub marks_alone : (v : LogView) (first : Option Pending) (p : Pending) (own : OpeningPlan) (new : Files) → WritesAll v first p None own → (WritesFor v p own → AreCountsAt own.counts.items p → KeepsOrMarks p v.files new) → MarksAll first p v.files new
marks_alone v None p own new all marked = λ f b none kept. marked all.writes all.counts_are f b kept
marks_alone v (Some q) p own new all marked = absurd all

pub marks_both : (v : LogView) (first : Option Pending) (p : Pending) (before own : OpeningPlan) (new : Files) → WritesAll v first p (Some before) own → ((q : Pending) → WritesCounted v q before → WritesCounted v p own → MarksAll (Some q) p v.files new) → MarksAll first p v.files new
marks_both v None p before own new all marked = absurd all
marks_both v (Some q) p before own new all marked = marked q all.0 all.1

same_point : (m n : ℕ) → Some m ≡ Some n → m ≡ n
same_point m n is = cc

-- what is wanted of files
module _ (v : LogView) (start : LogStarts v) (asked : Asked) (rows : List Row) (own : OpeningPlan) (new : Files) where
  pub marks_asked : (before : Option OpeningPlan) → PlansAll v.end.total v.first v.files asked rows before own → ((first : Option Pending) (p : Pending) → WritesAll v first p before own → MarksAll first p v.files new)
      → MarksAll (goes_first asked (history_of (trail_entries v.end.total v.first v.files)).pending) (restore_asked (trail_entries v.end.total v.first v.files) asked rows own.choice.point) v.files new
  marks_asked None plans marked =
      let c = plans.plan.chooses in
      let is = c.is.new plans.begins in
      subst (λ (o : Option Pending). MarksAll o (restore_asked (trail_entries v.end.total v.first v.files) asked rows own.choice.point) v.files new) (sym is.0)
      (subst (λ (p : Pending). MarksAll None p v.files new) is.3
      (marked None c.restore (record { writes = record { start = start; plan_is = plans.plan.plan_is }; counts_are = plans.plan.counts_are })))
  marks_asked (Some before) plans marked =
      let first = plans.first_plan in
      let q = first.chooses.restore in
      let behind = plans.own_plan in
      subst (λ (o : Option Pending). MarksAll o (restore_asked (trail_entries v.end.total v.first v.files) asked rows own.choice.point) v.files new) (sym (first.chooses.is.goes_on plans.goes_on))
      (marked (Some q) (restore_asked (trail_entries v.end.total v.first v.files) asked rows own.choice.point) (
        record { writes = record { start = start; plan_is = first.plan_is }; counts_are = first.counts_are },
        record { writes = record { start = start; plan_is = behind.plan_is }; counts_are = behind.counts_are },
      ))

abbrev MarksFor : ℕ → ℕ → ℕ → Files → Wanted → List Row → Files → Type 0
MarksFor t f n files wanted rows new =
    MarksAll (goes_first (asked_for t f files wanted) (history_of (trail_entries t f files)).pending) (restore_asked (trail_entries t f files) (asked_for t f files wanted) rows n) files new

module _ {S : Type 0} (g : Ghosts S) (site : S) (p : PlannedRestore S) (same : g.files p.log.site ≡ g.files site) (trail : IsTrailFound p.log.end.total p.log.first (g.files site)) (starts : LogStarts (view_of g p.log)) (wanted : Wanted) (rows : List Row)
    (plans : PlansAll p.log.end.total p.log.first (g.files site) (asked_for p.log.end.total p.log.first (g.files site) wanted) rows p.before p.own) where
  pub marks_here : (new : Files) → ((first : Option Pending) (r : Pending) → WritesAll (view_of g p.log) first r p.before p.own → MarksAll first r (g.files p.log.site) new) → MarksWanted (g.files site) new wanted rows
  marks_here new marked t f n found is =
      let total = p.log.end.total in
      let first = p.log.first in
      let one = one_total t f total first (g.files site) found trail in
      let two = one_first t f total first (g.files site) found trail in
      let there = subst (λ (x : Files). PlansAll total first x (asked_for total first x wanted) rows p.before p.own) (sym same) plans in
      let own = own_point total first (g.files site) (asked_for total first (g.files site) wanted) rows p.before p.own plans in
      let at : n ≡ p.own.choice.point = same_point n p.own.choice.point (sym is ∙ (λ i. point_asked (asked_for (one i) (two i) (g.files site) wanted) (last_of (one i) (two i) (g.files site))) ∙ own) in
      let here : MarksFor total first p.own.choice.point (g.files p.log.site) wanted rows new = marks_asked (view_of g p.log) starts (asked_for total first (g.files p.log.site) wanted) rows p.own new p.before there marked in
      subst (λ k. MarksFor k f n (g.files site) wanted rows new) (sym one)
      (subst (λ k. MarksFor total k n (g.files site) wanted rows new) (sym two)
      (subst (λ k. MarksFor total first k (g.files site) wanted rows new) (sym at)
      (subst (λ (x : Files). MarksFor total first p.own.choice.point x wanted rows new) same here)))
