-- An opening begins a restore, or goes on with one.
use Rattle.std.proofs.Common.{ℕ, ◌≡◌, Bool, true, false, List, [], ◌++◌, refl, sym, ◌∙◌, ap, subst}
use Rattle.dms_moments.specs.Moments.{Clock}
use Rattle.dms_moments.specs.MomentLaws.{runs_none}
use Rattle.dms_site.specs.Files.{Left, stored_of}
use Rattle.dms_history.specs.Events.{halt_load}
use Rattle.dms_history.specs.Places.{IsLive}
use Rattle.dms_history.specs.History.{Pending, last_point}
use Rattle.dms_history.specs.Pick.{blocks_at}
use Rattle.dms_history.specs.Here.{restore_pick, outcome}
use Rattle.dms_history.specs.Entries.{Entry, Kind, by_halt_load, how_of}
use Rattle.dms_history.specs.EntryEvents.{history_of, live_of, next_of}
use Rattle.dms_history.proofs.Order.{append_none}
use Rattle.dms_audfile.specs.TrailEntries.{trail_entries}
use Rattle.dms_running.specs.Points.{DescribedPoint, points_told, points_of, next_in}
use Rattle.dms_running.specs.Running.{entries_now, LeavesPoints}
use Rattle.dms_running.specs.Begun.{ByAudit, outcome_now}
use Rattle.dms_restore.specs.Logging.{waits, LogView, telling, state, LogRuns, points, next}
use Rattle.dms_restore.specs.Begins.{LastIs, begun_to, BegunAt, BeginsRestore, LeavesEach}
use Rattle.dms_opening.specs.Starts.{MayOpen, BegunFrom}
use Rattle.dms_restore.proofs.Trails.{waits_is}
use Rattle.dms_restore.proofs.Opens.{opens_running, opens_begun}

-- a halt/load goes by the audit
pub audit_kind : (kind : Kind) → kind ≡ by_halt_load → ByAudit (how_of kind)
audit_kind kind is = subst (λ (k : Kind). ByAudit (how_of k)) (sym is) tt

module _ (v : LogView) (begins : Bool) (point : ℕ) (p : Pending) (s : MayOpen v begins point p) where
  abbrev found_entries : List Entry
  found_entries = trail_entries v.end.total v.first v.files

  nothing : waits v.end ≡ []
  nothing = waits_is v.end v.first [] v.files v.clock s.start.ends

  all_found : entries_now (telling v) (state v) ≡ found_entries
  all_found = ap (λ (l : List Entry). found_entries ++ l) nothing ∙ append_none found_entries

  points_found : points v ≡ points_of (telling v) v.files
  points_found = ap (λ (l : List Entry). points_told ((telling v).dumps v.files) l (stored_of v.files)) all_found

  next_found : next v ≡ next_in (telling v) v.files
  next_found = ap next_of all_found

  module _ (new : begins ≡ true) where
    pub may_run : LogRuns v
    may_run = opens_running v s.start s.whole (s.opening.new new).0

    pub last_found : LastIs v point
    last_found = record {
      last = ap (λ (l : List Entry). last_point (history_of l)) all_found ∙ (s.opening.new new).1;
      lives = subst (λ (l : List Entry). IsLive (live_of l) point) (sym all_found) (s.opening.new new).2;
    }

    restore_is : begun_to v point halt_load ≡ p
    restore_is = (λ i. record { entries = live_of (all_found i); point = point; how = halt_load }) ∙ sym (s.opening.new new).3

    pub begun_new : (w : LogView) → BegunAt (begun_to v point halt_load) w → BegunAt p w
    begun_new w b = subst (λ (q : Pending). BegunAt q w) restore_is b

    content_is : blocks_at (live_of (entries_now (telling v) (state v))) (stored_of v.files) point ≡ outcome_now (telling v) (begun_to v point halt_load) (state v)
    unfolding outcome restore_pick blocks_at
    content_is = refl

    pub keeps_new : (w : LogView) → BeginsRestore v w point halt_load → BegunFrom p v w
    keeps_new w k = record {
      points_same = k.points_same ∙ points_found;
      next_same = k.next_same ∙ next_found;
      outcome_same = ap (λ (q : Pending). outcome_now (telling w) q (state w)) (sym restore_is) ∙ k.leaves ∙ content_is ∙ ap (λ (q : Pending). outcome_now (telling v) q (state v)) restore_is;
    }

  pub leaves_new : (later : Clock Left) → LeavesPoints (telling v) (points v) (next v) (state v) later → LeavesPoints (telling v) (points_of (telling v) v.files) (next_in (telling v) v.files) (state v) later
  leaves_new later leaves = subst (λ n. LeavesPoints (telling v) (points_of (telling v) v.files) n (state v) later) next_found (subst (λ (l : List DescribedPoint). LeavesPoints (telling v) l (next v) (state v) later) points_found leaves)

  pub begun_found : begins ≡ false → BegunAt p v
  begun_found old = opens_begun v s.start s.whole p (s.opening.goes_on old)

-- nothing changes where the restore goes on
pub keeps_found : (p : Pending) (v : LogView) → BegunFrom p v v
keeps_found p v = record { points_same = refl; next_same = refl; outcome_same = refl }

pub leaves_found : (v : LogView) → LeavesEach v v
leaves_found v = runs_none v.clock _
