-- The laws of a site over a folder.
use Rattle.std.proofs.Common.{ℕ, ◌≡◌, ◌≤◌, ◌∙◌, refl, ap}
use Rattle.dms_moments.specs.Moments.{Clock, Now}
use Rattle.dms_site.specs.Files.{Left}
use Rattle.dms_calls.specs.World.{World}
use Rattle.dms_calls.specs.Seen.{site_files, seen_clock, left_of}
use Rattle.dms_calls.specs.Names.{name_of}

pub seen_stays : (c : Clock World) (w : World) → Now c w → (x : Left) × Now (seen_clock name_of c) x × (x.files ≡ site_files name_of w)
unfolding seen_clock
seen_stays c w now = (left_of name_of w, (w, now, refl), refl)

pub seen_said : (c : Clock World) (w : World) → ((v : World) → Now c v → v.said ≡ w.said) → (x : Left) → Now (seen_clock name_of c) x → x.said ≡ w.said
unfolding seen_clock
seen_said c w said x now = ap (λ (l : Left). l.said) now.2 ∙ said now.0 now.1

pub seen_counts : (c : Clock World) → ((t : ℕ) (v : World) → t ≤ c.now → Now c v → c.left t v) → (t : ℕ) (x : Left) → t ≤ (seen_clock name_of c).now → Now (seen_clock name_of c) x → (seen_clock name_of c).left t x
unfolding seen_clock
seen_counts c counts t x le now = (now.0, counts t now.0 le now.1, now.2)
