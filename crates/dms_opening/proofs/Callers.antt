-- What a caller of an opening may need.
use Rattle.std.proofs.Common.{ℕ, ◌≡◌}
use Rattle.dms_site.specs.Files.{Files}
use Rattle.dms_opening.specs.Openings.{IsTrailFound}
use Rattle.dms_opening.proofs.OneTrail.{one_first, one_total}

-- Files have one trail at most.
pub trail_is_one : (total first total' first' : ℕ) (files : Files) → IsTrailFound total first files → IsTrailFound total' first' files → (total ≡ total') × (first ≡ first')
trail_is_one total first total' first' files one two = (one_total total first total' first' files one two, one_first total first total' first' files one two)
