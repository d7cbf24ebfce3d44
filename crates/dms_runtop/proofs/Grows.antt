-- The trail of a run stays behind that of entry, at each stop.
use Rattle.std.proofs.Common.{ℕ, ◌≡◌, Bool, false, IsTrue, sym, subst, arith}
use Rattle.dms_moments.specs.Moments.{Clock, Steps}
use Rattle.dms_moments.specs.MomentLaws.{runs_none, steps_weaken}
use Rattle.dms_opening.specs.declared.opened.Opened.{Opened}
use Rattle.dms_opening.specs.Openings.{IsTrailFound, OpeningGrows}
use Rattle.dms_guard.proofs.Trails.{kept_at, left_at, trail_entered}
use Rattle.dms_restore.specs.GrowLaws.{kept_none, kept_on, leaves_none, left_on, log_grows_more, log_grows_none, stays_none, stays_on}
use Rattle.dms_restore.specs.Logging.{LeavesTrail, LogGrows, LogStays, TrailKept, telling}
use Rattle.dms_restore.specs.Views.{view_of}
use Rattle.dms_runtop.specs.Command.{GrowsOpened, KeepsTrail}
use Rattle.dms_runtop.specs.Over.{ClosesOver, GrowsOver}
use Rattle.dms_site.specs.declared.site.Site.{Ghosts}
use Rattle.dms_site.specs.Files.{Files, Left, Same}
use Rattle.dms_status.specs.declared.status.Status.TheVariants.{Ok, Memory}
use Rattle.dms_wal.specs.declared.running.Running.{Running}
use Rattle.dms_wal.specs.Controls.{KeepsPace}
use Rattle.dms_wal.specs.Growing.{GrowsBy, close_limit, over_site}
use Rattle.dms_wal.specs.Lifting.{lift_clock}

memory_not_ok : Memory ≡ Ok → ⊥
memory_not_ok is = absurd cc

-- a call that only looks leaves it
left_looked : (total first : ℕ) (a b : Clock Left) → Steps Same a b → Steps (LeavesTrail total first) a b
left_looked total first a b same = steps_weaken same (λ x y now is. subst (λ (z : Left). LeavesTrail total first x z) (sym is) (leaves_none total first x))

module _ {S : Type 0} (g : Ghosts S) where
  -- behind a running database
  pub grows_over : (r r' : Running S) (site : S) → KeepsPace r r' → GrowsBy g r r' → GrowsOver g r' site → GrowsOver g r site
  grows_over r r' site pace grows closed tells =
      let two = closed tells in
      stays_on (view_of g r.log) (view_of g r'.log) (over_site g (view_of g r.log) site) pace.total pace.first (grows.stays tells) (record { kept = two.kept; left = two.left })

  -- its site was given back
  pub grows_left : (r : Running S) (site : S) → site ≡ r.log.site → GrowsOver g r site
  grows_left r site same tells = subst (λ x. LogStays (view_of g r.log) (over_site g (view_of g r.log) x)) (sym same) (stays_none (view_of g r.log))

  -- where nothing is changed since the last point, a close takes 18 entries
  pub closed_few : (r : Running S) (site : S) → r.changed ≡ false → (IsTrue g.tells → LogGrows (close_limit r.changed) (view_of g r.log) (over_site g (view_of g r.log) site))
      → IsTrue g.tells → LogGrows 18 (view_of g r.log) (over_site g (view_of g r.log) site)
  closed_few r site is grown tells = subst (λ (b : Bool). LogGrows (close_limit b) (view_of g r.log) (over_site g (view_of g r.log) site)) is (grown tells)

  -- a database that wasn't closed was left as it was
  pub left_unclosed : (r : Running S) (site : S) → site ≡ r.log.site → ClosesOver g r Memory site
  left_unclosed r site same =
      let v = view_of g r.log in
      subst (λ x. ClosesOver g r Memory x) (sym same) (record {
        leaves = λ told room. runs_none (lift_clock (telling v) v.clock) _;
        points_are = λ ok. absurd (memory_not_ok ok);
        whole = λ ok. absurd (memory_not_ok ok);
        next_is = λ ok. absurd (memory_not_ok ok);
        only = λ ok. absurd (memory_not_ok ok);
        grown = λ tells. log_grows_more 0 18 v (over_site g v r.log.site) (omega arith) (log_grows_none v);
      })

  -- behind a database that was opened: before it a call that only looked
  pub grows_looked : (o : Opened S) (site new : S) → (IsTrue g.tells → g.files site ≡ g.files o.log.site) → Steps Same (g.clock o.log.site) (g.clock site) → GrowsOpened g (record o { log = record o.log { site = site } }) new → GrowsOpened g o new
  grows_looked o site new same steps grown told =
      let later = grown told in
      let total = o.log.end.total in
      let first = o.log.first in
      record {
        kept = subst (λ (f : Files). TrailKept total first f (g.files new)) (same told) later.kept;
        left = left_on total first (g.clock o.log.site) (g.clock site) (g.clock new) (left_looked total first (g.clock o.log.site) (g.clock site) steps) later.left;
      }

  -- and behind it
  pub grows_upto : (o : Opened S) (new later : S) → (IsTrue g.tells → g.files later ≡ g.files new) → Steps Same (g.clock new) (g.clock later) → GrowsOpened g o new → GrowsOpened g o later
  grows_upto o new later same steps grown told =
      let before = grown told in
      let total = o.log.end.total in
      let first = o.log.first in
      record {
        kept = subst (λ (f : Files). TrailKept total first (g.files o.log.site) f) (sym (same told)) before.kept;
        left = left_on total first (g.clock o.log.site) (g.clock new) (g.clock later) before.left (left_looked total first (g.clock new) (g.clock later) steps);
      }

  -- nothing was done
  pub grows_none : (o : Opened S) (new : S) → (IsTrue g.tells → g.files new ≡ g.files o.log.site) → Steps Same (g.clock o.log.site) (g.clock new) → GrowsOpened g o new
  grows_none o new same steps told =
      let total = o.log.end.total in
      let first = o.log.first in
      record {
        kept = subst (λ (f : Files). TrailKept total first (g.files o.log.site) f) (sym (same told)) (kept_none total first (g.files o.log.site));
        left = left_looked total first (g.clock o.log.site) (g.clock new) steps;
      }

  -- the site was given back
  pub grows_same : (o : Opened S) (new : S) → new ≡ o.log.site → GrowsOpened g o new
  grows_same o new same told = subst (λ x. LogStays (view_of g o.log) (over_site g (view_of g o.log) x)) (sym same) (stays_none (view_of g o.log))

  -- ---- from the opening on

  -- it wasn't opened
  pub keeps_opening : (old new : S) → OpeningGrows g old new → KeepsTrail g old new
  keeps_opening old new grows = record { kept = grows.kept; left = grows.left }

  -- a run behind it
  pub keeps_entered : (old new : S) (o : Opened S) → IsTrailFound o.log.end.total o.log.first (g.files old) → OpeningGrows g old o.log.site → GrowsOpened g o new → IsTrue g.tells → KeepsTrail g old new
  keeps_entered old new o trail grows grown told =
      let then = grown told in
      let on = trail_entered g old o.log.site new o.log.end.total o.log.first trail grows then.kept then.left in
      record { kept = λ total first found. (on total first found).0; left = λ total first found. (on total first found).1 }

-- and so its trail grows over the running database that was opened
pub grows_described : {S : Type 0} (g : Ghosts S) (o : Opened S) (r : Running S) → r.log.site ≡ o.log.site → r.log.end.total ≡ o.log.end.total → r.log.first ≡ o.log.first → (site : S) → GrowsOver g r site → GrowsOpened g o site
grows_described g o r entry total_is first_is site grown told =
    let then = grown told in
    record {
      kept = subst (λ x. TrailKept o.log.end.total o.log.first (g.files x) (g.files site)) entry (kept_at total_is first_is then.kept);
      left = subst (λ x. Steps (LeavesTrail o.log.end.total o.log.first) (g.clock x) (g.clock site)) entry (left_at total_is first_is then.left);
    }

pub grown_same : {S : Type 0} (g : Ghosts S) (r r' : Running S) (site : S) → r' ≡ r → GrowsOver g r' site → GrowsOver g r site
grown_same {S} g r r' site is grown = subst (λ (x : Running S). GrowsOver g x site) is grown
