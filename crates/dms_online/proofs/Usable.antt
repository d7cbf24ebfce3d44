-- A running database of which a dump is written stays usable, with the same blocks and points.
use Rattle.std.specs.Prelude.{◌≢◌}
use Rattle.std.proofs.Common.{ℕ, ◌≤◌, ◌<◌, ◌≡◌, Bool, IsTrue, List, refl, sym, subst, arith}
use Rattle.dms_moments.specs.Moments.{Now, Steps}
use Rattle.dms_site.specs.declared.site.Site.{Ghosts}
use Rattle.dms_site.specs.Files.{Left}
use Rattle.dms_block.specs.Held.{MakesNoPoint, SameBlocks, Stays}
use Rattle.dms_running.specs.Points.{DescribedPoint}
use Rattle.dms_restore.specs.declared.log.Log.{Log}
use Rattle.dms_restore.specs.Logging as logs
use Rattle.dms_restore.specs.Logging.{points, LogRuns, LogsNothing}
use Rattle.dms_restore.specs.Views.{view_of}
use Rattle.dms_wal.specs.Database.{running_held, IsRunningUsable}
use Rattle.dms_wal.specs.Growing.{GrowsBy, TrailGrows}
use Rattle.dms_wal.specs.Marks.{IsMarkOf}
use Rattle.dms_wal.specs.declared.running.Running.{Running}
use Rattle.dms_wal.proofs.Grown.{grows_still}
use Rattle.dms_wal.proofs.Imaging.{images_on}
use Rattle.dms_wal.proofs.Marked.{mark_on}
use Rattle.dms_wal.proofs.Stepped.{passes_step, stays_step}
use Rattle.dms_wal.proofs.Stills.{goes_sealed}
use Rattle.dms_wal.proofs.Under.{under_on}
use Rattle.dms_online.proofs.Logs.{WritesDump, dumped_grows, dumped_leaves, dumped_nothing, dumped_runs, dumped_silent}

module _ {S : Type 0} (g : Ghosts S) (stay : (s : S) → IsTrue g.tells → (x : Left) × Now (g.clock s) x × (x.files ≡ g.files s)) (now_said : (s : S) (x : Left) → IsTrue g.tells_said → Now (g.clock s) x → x.said ≡ g.said s)
    (counts_now : (s : S) (t : ℕ) (x : Left) → t ≤ (g.clock s).now → Now (g.clock s) x → (g.clock s).left t x) (r : Running S) (u : IsRunningUsable g r)
    (dump : ℕ) (above : 20000 < dump) (below : dump ≤ 30000) (s : S) (others : IsTrue g.tells → (i : ℕ) → i ≢ dump → g.files s i ≡ g.files r.log.site i) (steps : IsTrue g.tells → Steps (WritesDump dump) (g.clock r.log.site) (g.clock s))
    (said : g.said s ≡ g.said r.log.site) where
  abbrev pub l : Log S
  l = record r.log { site = s }

  runs_then : IsTrue g.tells → LogRuns (view_of g l)
  runs_then t = dumped_runs (view_of g r.log) (u.goes t).runs (stay r.log.site t) dump above below (g.files s) (g.clock s) (others t) (steps t)

  leaves_then : IsTrue g.tells → logs.LogLeaves (view_of g r.log) (view_of g l) (points (view_of g r.log)) (logs.next (view_of g r.log))
  leaves_then t = dumped_leaves (view_of g r.log) (u.goes t).runs (stay r.log.site t) dump above below (g.files s) (g.clock s) (others t) (steps t)

  silent_then : IsTrue g.tells → Steps logs.PrintsNothing (g.clock r.log.site) (g.clock s)
  silent_then t = dumped_silent (view_of g r.log) (u.goes t).runs (stay r.log.site t) dump above below (g.files s) (g.clock s) (others t) (steps t)

  pub nothing_then : IsTrue g.tells → LogsNothing (view_of g r.log) (view_of g l)
  nothing_then t = dumped_nothing (view_of g r.log) (u.goes t).runs (stay r.log.site t) dump above below (g.files s) (g.clock s) (others t) (steps t) (stay s t)

  pub grows_then : TrailGrows g 0 r (record r { log = l })
  grows_then t = dumped_grows (view_of g r.log) (u.goes t).runs (stay r.log.site t) dump above below (g.files s) (g.clock s) (others t) (steps t)

  -- it stays usable
  pub usable_dumped : IsRunningUsable g (record r { log = l })
  usable_dumped = record {
    unbroken = u.unbroken;
    under = λ t. under_on (view_of g r.log) (view_of g l) r.schema.items (nothing_then t).entries_same (u.under t);
    described = u.described;
    table = u.table;
    marked = u.marked;
    pointed = λ t. subst (λ (ps : List DescribedPoint). IsMarkOf ps r.point r.marks.items) (sym (nothing_then t).points_same) (u.pointed t);
    unchanged = λ no t. mark_on (view_of g r.log) (view_of g l) r.counts.items r.marks.items (nothing_then t).content_same (nothing_then t).points_same (nothing_then t).entries_same (u.unchanged no t);
    counted = u.counted;
    images_counted = u.images_counted;
    imaged = λ t. images_on (view_of g r.log) (view_of g l) r.imaged (nothing_then t).entries_same (u.imaged t);
    goes = λ t. goes_sealed r.pool r.next r.counts.items (view_of g r.log) (view_of g l) refl (runs_then t) (nothing_then t) (u.goes t);
  }

  -- at each moment a stop leaves all its points, whatever was answered
  pub passes_dumped : (broken : Bool) → MakesNoPoint (running_held g r) (running_held g (record r { log = l; broken = broken }))
  passes_dumped broken = passes_step g now_said r u l r.pool broken r.full r.counts refl refl said leaves_then silent_then

  -- points, mark and blocks are the same
  pub stays_dumped : Stays (running_held g r) (running_held g (record r { log = l }))
  stays_dumped = stays_step g now_said r u l r.pool r.broken r.full r.counts refl stay counts_now usable_dumped (λ t. (nothing_then t).points_same) leaves_then

  pub same_dumped : (broken : Bool) → SameBlocks (running_held g r) (running_held g (record r { log = l; broken = broken }))
  same_dumped broken = record { counts = refl; content = λ t. (nothing_then t).content_same }

  -- the audit doesn't grow
  pub grown_dumped : (broken : Bool) → GrowsBy g r (record r { log = l; broken = broken })
  grown_dumped broken = grows_still g r (record r { log = l; broken = broken }) u.unbroken (record { every = refl; limit = refl; total = refl; first = refl; schema = refl }) (omega arith) (omega arith) (omega arith) (omega arith) grows_then
      (λ tells whole. (nothing_then tells).entries_same)
