-- A restore of a database has ended: its files hold it, with exactly the points up to that of the restore.
use Rattle.std.proofs.Common.{ℕ, ◌≤◌, ◌≡◌, List, ◌++◌, sym, ◌∙◌, ap, subst}
use Rattle.dms_site.specs.Files.{Files, stored_of}
use Rattle.dms_history.specs.Events.{Stored}
use Rattle.dms_history.specs.Entries.{Entry, Kind}
use Rattle.dms_history.specs.EntryEvents.{next_of}
use Rattle.dms_history.proofs.Order.{append_none}
use Rattle.dms_running.specs.AnyBegun.{points_to}
use Rattle.dms_running.specs.Points.{points_of, points_told, next_in}
use Rattle.dms_running.specs.Running.{IsAnOutcome}
use Rattle.dms_running.specs.Standing.{IsWhole}
use Rattle.dms_running.specs.Telling.{Telling}
use Rattle.dms_running.proofs.Appending.{running_whole}
use Rattle.dms_audfile.specs.TrailEntries.{trail_entries}
use Rattle.dms_restore.specs.Logging as logs
use Rattle.dms_restore.specs.Logging.{LogView, telling_of, telling, state, waits}
use Rattle.dms_restore.specs.Views.{LogStarts}
use Rattle.dms_opening.specs.declared.plan.OpeningPlan.{OpeningPlan}
use Rattle.dms_opening.specs.Carrying.{RunsTo}
use Rattle.dms_recovery.specs.Leaving.{HoldsUpTo, described_to}
use Rattle.dms_recovery.proofs.Beginning.{entries_is, points_is}

-- the right blocks have exactly the points of a database up to that of the restore
module _ (v w : LogView) (u : Files) (right : Stored) (kind : Kind) (plan : OpeningPlan) (points : points_to (telling v) (state v) right plan.choice.point ≡ described_to plan.choice.point (points_of (telling v) u))
    (next : plan.next ≡ next_in (telling v) u) (total : w.end.total ≡ v.end.total) (first : w.first ≡ v.first) (runs : RunsTo v right kind plan w) (read : IsAnOutcome (state w)) where
  tells : telling w ≡ telling v
  tells = λ i. telling_of (total i) (first i)

  -- all its entries are sealed
  sealed : (telling w).entries w.files ++ waits w.end ≡ (telling w).entries w.files
  sealed = ap (λ (l : List Entry). (telling w).entries w.files ++ l) runs.nothing ∙ append_none ((telling w).entries w.files)

  points_now_are : logs.points w ≡ points_of (telling w) w.files
  points_now_are = ap (λ (l : List Entry). points_told ((telling w).dumps w.files) l (stored_of w.files)) sealed

  next_now_is : logs.next w ≡ next_in (telling w) w.files
  next_now_is = ap (λ (l : List Entry). next_of l) sealed

  pub holds_points : HoldsUpTo (telling v) u plan.choice.point w.files
  holds_points = record {
    whole = subst (λ (t : Telling). IsWhole t w.files) tells (running_whole (telling w) (state w) runs.runs.runs read);
    points_are = ap (λ (t : Telling). points_of t w.files) (sym tells) ∙ sym points_now_are ∙ runs.points_are ∙ points;
    next_same = ap (λ (t : Telling). next_in t w.files) (sym tells) ∙ sym next_now_is ∙ runs.next_is ∙ next;
  }

-- so have the blocks of that database
pub holds_up_to : (v w : LogView) (u : Files) (start : LogStarts v) (same : (g : ℕ) → g ≤ 30000 → v.files g ≡ u g) (whole : IsWhole (telling v) u) (kind : Kind) (plan : OpeningPlan) → next_of (trail_entries v.end.total v.first v.files) ≡ plan.next
    → w.end.total ≡ v.end.total → w.first ≡ v.first → RunsTo v (stored_of u) kind plan w → IsAnOutcome (state w) → HoldsUpTo (telling v) u plan.choice.point w.files
holds_up_to v w u start same whole kind plan next =
    holds_points v w u (stored_of u) kind plan (points_is v u start same whole plan.choice.point) (sym next ∙ ap (λ (l : List Entry). next_of l) (entries_is v u start same whole))
