-- A restore that goes on over any files, from its first write to its Control.
use Rattle.std.proofs.Common.{ℕ, ◌≡◌, inl, inr, List, [], ◌∷◌, ◌++◌, sym, subst}
use Rattle.dms_moments.specs.Moments.{Clock, Runs}
use Rattle.dms_moments.specs.MomentLaws.{runs_on, runs_weaken}
use Rattle.dms_site.specs.declared.site.Site.{Ghosts}
use Rattle.dms_site.specs.Files.{Files, Left, Only}
use Rattle.dms_history.specs.Entries.{Entry, control_point}
use Rattle.dms_history.specs.History.{Pending}
use Rattle.dms_history.specs.Schemas.{schema_entries}
use Rattle.dms_audrec.specs.Bodies.{bodies}
use Rattle.dms_audrec.specs.Spelling.{pair_bytes, count_file, count_blocks}
use Rattle.dms_running.specs.ByHow.{IsKeptBy}
use Rattle.dms_running.specs.Plans.{Planned}
use Rattle.dms_running.specs.Restoring.{Rewritten}
use Rattle.dms_running.specs.Telling.{Telling}
use Rattle.dms_restore.specs.Counts.{file_counts}
use Rattle.dms_restore.specs.Laying.{schema_control, SealsSince}
use Rattle.dms_restore.specs.Logging.{LogView, telling_of, telling}
use Rattle.dms_restore.specs.Over.{RewritesBy, WritesOver, SealsEnd, LaysWithin, LeavesOver, EndsOver}
use Rattle.dms_restore.specs.Views.{view_of, LogStarts}
use Rattle.dms_restore.specs.declared.log.Log.{Log}
use Rattle.dms_restore.proofs.CountBytes.{counts_read}
use Rattle.dms_opening.specs.declared.plan.OpeningPlan.{OpeningPlan}
use Rattle.dms_opening.specs.Carrying.{IsFitPlan}
use Rattle.dms_opening.specs.Claims.{ends_of}
use Rattle.dms_opening.proofs.Carries.{count_table}

-- while blocks are written a stop leaves some of them
pub writes_runs : (p : Pending) (a : LogView) (es : List Entry) (later : Clock Left) → Only a.files a.clock → RewritesBy p a.clock later → Runs a.clock later (LeavesOver p a es)
writes_runs p a es later only steps =
    runs_weaken steps.runs (λ x after. inl (subst (λ (f : Files). Rewritten (IsKeptBy p.how p.entries p.point) f x.files) (only after.0 after.1) after.2.files))

-- all were written, and entries are sealed behind that
module _ (p : Pending) (a b : LogView) (total : b.end.total ≡ a.end.total) (first : b.first ≡ a.first) (es : List Entry) (writes : WritesOver p a.files b.files) where
  same : telling b ≡ telling a
  same = λ i. telling_of (total i) (first i)

  pub within_over : (later : Clock Left) → Runs a.clock b.clock (LeavesOver p a es) → LaysWithin b later es → Runs a.clock later (LeavesOver p a es)
  within_over later so_far then = runs_on so_far then (λ x within. inr (record { mid = b.files; writes = writes; planned = subst (λ (t : Telling). Planned t es b.files x) same within }))

  pub ends_over : (c : LogView) → SealsEnd b c es → EndsOver p a c es
  ends_over c sealed = record {
    mid = b.files;
    writes = writes;
    sealed = subst (λ n. SealsSince a.end.total c.end n es b.files c.files c.clock) first (subst (λ n. SealsSince n c.end b.first es b.files c.files c.clock) total sealed);
  }

-- a log that is the same starts as it did
pub starts_same : {S : Type 0} (g : Ghosts S) (old log : Log S) → log ≡ old → LogStarts (view_of g old) → LogStarts (view_of g log)
starts_same {S = S} g old log same start = subst (λ (l : Log S). LogStarts (view_of g l)) (sym same) start

-- what a plan says of the restore that goes on, from a log that is the same
module _ {S : Type 0} (g : Ghosts S) (p : Pending) (old log : Log S) (same : log ≡ old) (plan : OpeningPlan) (ready : IsFitPlan plan)
    (bytes : List ℕ) (is : bytes ≡ pair_bytes count_file count_blocks (file_counts 30001 plan.counts.items)) (schema : List ℕ) (described : schema ≡ plan.schema.items) where
  ends_are : schema_control schema plan.choice.point plan.next bytes ≡ ends_of plan
  ends_are = λ i. schema_entries (bodies (described i)) ++ control_point plan.choice.point plan.next (counts_read plan.counts.items (count_table plan ready) bytes is i) ∷ []

  pub over_as : (b : LogView) → EndsOver p (view_of g log) b (schema_control schema plan.choice.point plan.next bytes) → EndsOver p (view_of g old) b (ends_of plan)
  over_as b over = subst (λ (l : Log S). EndsOver p (view_of g l) b (ends_of plan)) same (subst (λ (es : List Entry). EndsOver p (view_of g log) b es) ends_are over)

  pub left_as : (later : Clock Left) → Runs (g.clock log.site) later (LeavesOver p (view_of g log) (schema_control schema plan.choice.point plan.next bytes)) → Runs (g.clock old.site) later (LeavesOver p (view_of g old) (ends_of plan))
  left_as later runs =
      subst (λ (l : Log S). Runs (g.clock l.site) later (LeavesOver p (view_of g l) (ends_of plan))) same
      (subst (λ (es : List Entry). Runs (g.clock log.site) later (LeavesOver p (view_of g log) es)) ends_are runs)
