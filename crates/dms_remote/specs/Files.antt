-- The audit files of a trail, from one on up to its end.
use Rattle.std.specs.Prelude.{ℕ, ◌+◌, ◌<◌, ◌≤◌, ◌≡◌, true}
use Rattle.dms_site.specs.Files.{Files}
use Rattle.dms_audfile.specs.Gates.{count_open, is_full}
use Rattle.dms_remote.specs.Shipping.{blocks_on, AreWhole}

-- From audit file k on all files before `last` are full, that one has so many sealed blocks and isn't full, and each block has all its bytes.
pub record EndsIn (k total last count : ℕ) (files : Files) : Type 0 where
  pub full : (g : ℕ) → 10000 + k ≤ g → g < last → is_full total (files g) ≡ true
  pub opened : count_open total (files last) ≡ count
  pub not_full : count < total
  pub whole : AreWhole (blocks_on total last k files)
