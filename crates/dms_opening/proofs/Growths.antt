-- What an opening does to the trail of a site.
use Rattle.std.proofs.Common.{ℕ, ◌+◌, ◌≤◌, ◌≡◌, List, [], length, length-append, sym, ap, subst, arith}
use Rattle.dms_moments.specs.Moments.{Steps}
use Rattle.dms_moments.specs.MomentLaws.{steps_on, steps_weaken}
use Rattle.dms_site.specs.declared.site.Site.{Ghosts}
use Rattle.dms_site.specs.Files.{Files, Left, Same}
use Rattle.dms_history.specs.Entries.{Entry}
use Rattle.dms_audfile.specs.TrailEntries.{trail_entries}
use Rattle.dms_audfile.specs.declared.audit_end.AuditEnd.{AuditEnd}
use Rattle.dms_restore.specs.GrowLaws.{kept_none, leaves_none}
use Rattle.dms_restore.specs.Logging.{FilesGrew, LeavesTrail, LogGrows, LogView, TrailKept, view, waits}
use Rattle.dms_restore.specs.Views.{view_of, LogStarts}
use Rattle.dms_restore.proofs.Trails.{waits_is}
use Rattle.dms_opening.specs.declared.looking.PlannedOpening.{PlannedOpening}
use Rattle.dms_opening.specs.Openings.{IsTrailFound, OpeningGrows, SealsFew}
use Rattle.dms_opening.proofs.Callers.{trail_is_one}

-- what is the same has the trail
left_same : (total first : ℕ) (x y : Left) → y ≡ x → LeavesTrail total first x y
left_same total first x y same = subst (λ (z : Left). LeavesTrail total first x z) (sym same) (leaves_none total first x)

-- nothing changed
pub grows_none : {S : Type 0} (g : Ghosts S) (old new : S) → g.files new ≡ g.files old → Steps Same (g.clock old) (g.clock new) → OpeningGrows g old new
grows_none g old new same steps = record {
  kept = λ total first found. subst (λ (f : Files). TrailKept total first (g.files old) f) (sym same) (kept_none total first (g.files old));
  left = λ total first found. steps_weaken steps (λ x y now is. left_same total first x y is);
  few = λ total first found whole. omega (arith, ap (λ (f : Files). length (trail_entries total first f)) same);
}

-- nothing waits at a start, so the files there have all entries
few_since : (n : ℕ) (a : LogView) (files : Files) → LogStarts a → FilesGrew n a files → length (trail_entries a.end.total a.first files) ≤ length (trail_entries a.end.total a.first a.files) + n
few_since n a files start few =
    let none : length (waits a.end) ≡ 0 = ap (λ (l : List Entry). length l) (waits_is a.end a.first [] a.files a.clock start.ends) in
    omega (arith, few, none, length-append (trail_entries a.end.total a.first a.files) (waits a.end))

-- the trail of a site that was looked at grew
module _ {S : Type 0} (g : Ghosts S) (site : S) (p : PlannedOpening S) (same : g.files p.log.site ≡ g.files site) (steps : Steps Same (g.clock site) (g.clock p.log.site))
    (trail : IsTrailFound p.log.end.total p.log.first (g.files site)) (start : LogStarts (view_of g p.log)) where
  -- what holds of one trail of its files holds of each
  here : (P : ℕ → ℕ → Type 0) (t f : ℕ) → IsTrailFound t f (g.files site) → P p.log.end.total p.log.first → P t f
  here P t f found is = let one = trail_is_one p.log.end.total p.log.first t f (g.files site) trail found in subst (λ k. P t k) one.1 (subst (λ k. P k p.log.first) one.0 is)

  pub grows_by : (later : S) (end : AuditEnd) (first : ℕ) → LogGrows 19 (view_of g p.log) (view end first (g.files later) (g.clock later)) → OpeningGrows g site later
  grows_by later end first grows = record {
    kept = λ t f found. here (λ a b. TrailKept a b (g.files site) (g.files later)) t f found
        (subst (λ (x : Files). TrailKept p.log.end.total p.log.first x (g.files later)) same grows.stays.kept);
    left = λ t f found. here (λ a b. Steps (LeavesTrail a b) (g.clock site) (g.clock later)) t f found
        (steps_on steps grows.stays.left (λ x y z nx ny is leaves. subst (λ (w : Left). LeavesTrail p.log.end.total p.log.first w z) is leaves)
        (λ x y nx is. left_same p.log.end.total p.log.first x y is));
    few = λ t f found whole. here (λ a b. SealsFew a b (g.files site) (g.files later)) t f found
        (subst (λ (x : Files). SealsFew p.log.end.total p.log.first x (g.files later)) same (few_since 19 (view_of g p.log) (g.files later) start grows.few));
  }
