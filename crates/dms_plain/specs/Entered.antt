-- The entries of manual subsets, and those at the last quiet point.
use Rattle.std.specs.Prelude.{List}
use Rattle.dms_model.specs.Db.{SubsetEntry}

pub record Entered : Type 0 where
  pub entries : List SubsetEntry
  pub mark : List SubsetEntry
