-- What was planned may be carried out.
use Rattle.std.proofs.Common.{ℕ, ◌≡◌, List, Option, Some, None, refl, sym, ◌∙◌, ap, subst}
use Rattle.std.proofs.lemmas.Option.{none-some}
use Rattle.dms_site.specs.Files.{Files, stored_of}
use Rattle.dms_history.specs.Events.{Stored, How, halt_load, back_out, roll_back, rebuild, reconstruct}
use Rattle.dms_history.specs.Here.{here}
use Rattle.dms_history.specs.History.{Pending, last_point}
use Rattle.dms_history.specs.Pick.{count_at}
use Rattle.dms_history.specs.Places.{IsLive}
use Rattle.dms_history.specs.Entries.{Entry, Kind, how_of}
use Rattle.dms_history.specs.EntryEvents.{history_of, live_of, next_of}
use Rattle.dms_history.specs.declared.event.Row.{Row}
use Rattle.dms_audfile.specs.Ends.{Grown}
use Rattle.dms_audfile.specs.Header.{tag_said}
use Rattle.dms_audfile.specs.TrailEntries.{trail_entries}
use Rattle.dms_running.specs.FromDumps.{OrderBy}
use Rattle.dms_running.specs.Standing.{Stands}
use Rattle.dms_restore.specs.Begins.{any_to}
use Rattle.dms_restore.specs.Dumped.{IsDumpFound, dumps_of}
use Rattle.dms_restore.specs.GrowLaws.{trail_grows_on}
use Rattle.dms_restore.specs.Logging.{LogView, telling}
use Rattle.dms_restore.specs.Table.{IsPlan}
use Rattle.dms_restore.specs.Views.{LogStarts}
use Rattle.dms_opening.specs.declared.asked.Asked.{Asked}
use Rattle.dms_opening.specs.declared.plan.OpeningPlan.{OpeningPlan}
use Rattle.dms_opening.specs.Asked.{judge_own}
use Rattle.dms_opening.specs.Behind.{restore_asked}
use Rattle.dms_opening.specs.Carrying.{WritesFor, MayBegin}
use Rattle.dms_opening.specs.Doing.{goes_first, kind_asked, point_asked}
use Rattle.dms_opening.specs.DumpLooks.{look_of, dump_begun, dump_asked}
use Rattle.dms_opening.specs.Plans.{SameDumps}
use Rattle.dms_opening.proofs.Chosen.{own_none}
use Rattle.dms_recovery.specs.declared.wanted.Wanted.{Wanted}
use Rattle.dms_recovery.specs.Planned.{PlansAlone, PlansAll}
use Rattle.dms_recovery.specs.Ready.{AreReady}
use Rattle.dms_recovery.specs.Restoring.{HasDumpFor, MayRestore}
use Rattle.dms_recovery.specs.Wanting.{asked_for}
use Rattle.dms_recovery.proofs.Beginning.{copied_dump, stands_here, begins_any}
use Rattle.dms_recovery.proofs.Orders.{CopiedFor, order_asked, dump_serves}

-- where none goes first, what is asked begins alone
pub before_none : (total first : ℕ) (files : Files) (asked : Asked) (rows : List Row) (before : Option OpeningPlan) (own : OpeningPlan) → PlansAll total first files asked rows before own
    → goes_first asked (history_of (trail_entries total first files)).pending ≡ None → (before ≡ None) × PlansAlone total first files asked rows own
before_none total first files asked rows None own plans none = (refl, plans)
before_none total first files asked rows (Some plan) own plans none = absurd (none-some _ (sym none ∙ plans.first_plan.chooses.is.goes_on plans.goes_on))

-- what was planned is ready
pub all_ready : (v : LogView) (asked : Asked) (rows : List Row) (before : Option OpeningPlan) (own : OpeningPlan) → LogStarts v → PlansAll v.end.total v.first v.files asked rows before own → AreReady v before own
all_ready v asked rows None own start plans = record { restore = plans.plan.chooses.restore; writes = record { start = start; plan_is = plans.plan.plan_is } }
all_ready v asked rows (Some before) own start plans = record {
  pending = plans.first_plan.chooses.restore;
  first_writes = record { start = start; plan_is = plans.first_plan.plan_is };
  restore = restore_asked (trail_entries v.end.total v.first v.files) asked rows own.choice.point;
  own_writes = record { start = start; plan_is = plans.own_plan.plan_is };
}

-- the second restore is so behind the first one
pub writes_behind : (v w : LogView) (p : Pending) (own : OpeningPlan) → w.end.total ≡ v.end.total → w.first ≡ v.first → LogStarts w → Grown v.end.total v.first v.files w.files → SameDumps v.files w.files → WritesFor v p own → WritesFor w p own
writes_behind v w p own total first start grown dumps writes = record {
  start = start;
  plan_is = λ new more same.
      writes.plan_is new (trail_grows_on v.end.total v.first v.files w.files new grown (subst (λ n. Grown v.end.total n w.files new) first (subst (λ n. Grown n w.first w.files new) total more)))
      (λ g up upto. same g up upto ∙ dumps g up upto);
}

-- the restore of a database
module _ (v : LogView) (u : Files) (start : LogStarts v) (wanted : Wanted) (rows : List Row) (own : OpeningPlan) (may : MayRestore v.end.total v.first v.files u wanted rows)
    (plans : PlansAlone v.end.total v.first v.files (asked_for v.end.total v.first v.files wanted) rows own) where
  abbrev es : List Entry
  es = trail_entries v.end.total v.first v.files

  abbrev asked : Asked
  asked = asked_for v.end.total v.first v.files wanted

  abbrev kind : Kind
  kind = kind_asked asked rows

  abbrev m : ℕ
  m = own.choice.point

  abbrev p : Pending
  p = any_to v m kind

  restore_is : plans.plan.chooses.restore ≡ p
  restore_is = (plans.plan.chooses.is.new plans.begins).3

  pub asked_is : point_asked (asked_for v.end.total v.first v.files wanted) (last_point (history_of (trail_entries v.end.total v.first v.files))) ≡ Some own.choice.point
  asked_is = (plans.plan.chooses.is.new plans.begins).1

  lives : IsLive (live_of es) m
  lives = (plans.plan.chooses.is.new plans.begins).2

  abbrev tag : ℕ
  tag = tag_said (v.files v.first)

  own_judged : judge_own v.first (live_of es) (next_of es) (last_point (history_of es)) asked (look_of tag (dump_asked v.files asked)) ≡ None
  own_judged = own_none v.first (history_of es) (next_of es) asked (look_of tag (dump_begun v.files (history_of es).pending)) (look_of tag (dump_asked v.files asked)) plans.plan.chooses.none

  order : OrderBy (IsDumpFound v.first v.files) (dumps_of v.files) p (how_of kind)
  order = order_asked v.first (next_of es) m v.files (live_of es) (last_point (history_of es)) asked rows own_judged asked_is

  abbrev stands : Stands (telling v).first es (dumps_of v.files) may.whole.base (stored_of u)
  stands = stands_here v u start may.same may.whole

  abbrev counted : Stored
  counted = here (dumps_of v.files) (history_of es) (stored_of u)

  copied_here : (how : How) → HasDumpFor v.end.total v.first u how → CopiedFor (dumps_of v.files) (live_of es) counted how
  copied_here halt_load is = tt
  copied_here back_out is = tt
  copied_here roll_back is = tt
  copied_here (rebuild d) is = copied_dump v u start may.same may.whole d is
  copied_here (reconstruct d named) is = copied_dump v u start may.same may.whole d is

  pub may_begin : MayBegin v (stored_of u) (kind_asked (asked_for v.end.total v.first v.files wanted) rows) own
  may_begin = record {
    begins = plans.begins;
    writes = record { start = start; plan_is = λ new grown same. subst (λ (q : Pending). IsPlan q new own.table) restore_is (plans.plan.plan_is new grown same) };
    counts_are = λ f. plans.plan.counts_are f ∙ ap (λ (q : Pending). count_at q.entries q.point f) restore_is;
    next_is = plans.plan.next_is;
    from = begins_any v u start may.same may.whole m kind lives may.blocks
        (dump_serves (how_of kind) (IsDumpFound v.first v.files) (dumps_of v.files) (live_of es) may.whole.base counted (next_of es) m p refl stands.kept.steady.sound stands.kept.numbered lives (copied_here (how_of kind) may.dump) order) order;
  }
