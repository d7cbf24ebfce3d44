-- The trail of the files of a site, behind its opening.
use Rattle.std.proofs.Common.{ℕ, ◌≡◌, subst}
use Rattle.dms_moments.specs.Moments.{Clock, Steps}
use Rattle.dms_opening.specs.Openings.{IsTrailFound, OpeningGrows}
use Rattle.dms_opening.proofs.Callers.{trail_is_one}
use Rattle.dms_restore.specs.GrowLaws.{kept_on, left_on}
use Rattle.dms_restore.specs.Logging.{LeavesTrail, TrailKept}
use Rattle.dms_site.specs.declared.site.Site.{Ghosts}
use Rattle.dms_site.specs.Files.{Files, Left}

-- the same trail, named otherwise
pub kept_at : {total total' first first' : ℕ} {a b : Files} → total ≡ total' → first ≡ first' → TrailKept total first a b → TrailKept total' first' a b
kept_at {total} {total'} {first} {first'} {a} {b} one two kept = subst (λ k. TrailKept total' k a b) two (subst (λ k. TrailKept k first a b) one kept)

pub left_at : {total total' first first' : ℕ} {a b : Clock Left} → total ≡ total' → first ≡ first' → Steps (LeavesTrail total first) a b → Steps (LeavesTrail total' first') a b
left_at {total} {total'} {first} {first'} {a} {b} one two left = subst (λ k. Steps (LeavesTrail total' k) a b) two (subst (λ k. Steps (LeavesTrail k first) a b) one left)

-- what is sealed behind an opening stands behind the trail of entry
pub trail_entered : {S : Type 0} (g : Ghosts S) (old mid new : S) (total first : ℕ) → IsTrailFound total first (g.files old) → OpeningGrows g old mid → TrailKept total first (g.files mid) (g.files new) → Steps (LeavesTrail total first) (g.clock mid) (g.clock new)
    → (t f : ℕ) → IsTrailFound t f (g.files old) → TrailKept t f (g.files old) (g.files new) × Steps (LeavesTrail t f) (g.clock old) (g.clock new)
trail_entered g old mid new total first trail grows kept left t f found =
    let one = trail_is_one total first t f (g.files old) trail found in
    (kept_on t f (g.files old) (g.files mid) (g.files new) (grows.kept t f found) (kept_at one.0 one.1 kept), left_on t f (g.clock old) (g.clock mid) (g.clock new) (grows.left t f found) (left_at one.0 one.1 left))
