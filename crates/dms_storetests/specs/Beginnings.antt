-- How a store begins.
use Rattle.std.specs.Prelude.{◌≡◌}
use Rattle.dms_desc.specs.Shape.{Described}
use Rattle.dms_model.specs.Seen.{Seen}

-- a store that may be used under this description, and whose last quiet point is the database that it has
pub record StartsAtMark (desc : Described) (s : Seen) : Type 0 where
  pub sound : s.sound
  pub desc_is : s.desc ≡ desc
  pub mark : s.mark ≡ s.db
