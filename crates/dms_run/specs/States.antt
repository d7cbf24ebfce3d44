-- The database that the points of a store end with.
use Rattle.std.specs.Prelude.{ℕ, ◌≡◌, if◌then◌else◌, List, [], ◌∷◌, ◌++◌, Some, None}
use Rattle.std.specs.Str.{bytes_eq}
use Rattle.std.specs.declared.option.Option.{Option}
use Rattle.dms_block.specs.Held.{BlockPoint}
use Rattle.dms_desc.specs.Shape.{Described}
use Rattle.dms_desc_bytes.specs.Spelling.{spelling}
use Rattle.dms_model.specs.Db.{Db}
use Rattle.dms_model.specs.Points.{Point, Quiet, told_point, known_point}
use Rattle.dms_running.specs.Points.{DescribedPoint}
use Rattle.dms_store.specs.Spelled.{database_in}

-- One of these points has the number and the database of this quiet point.
pub record HasState (points : List Point) (q : Quiet) : Type 0 where
  pub before : List Point
  pub point : Point
  pub after : List Point
  pub are : points ≡ before ++ point ∷ after
  pub is : told_point point ≡ known_point q

-- The last of these points has this number and this database.
pub record EndsWith (points : List Point) (n : ℕ) (db : Db) : Type 0 where
  pub before : List Point
  pub point : Point
  pub are : points ≡ before ++ point ∷ []
  pub is : told_point point ≡ known_point (n, db)

-- The last of these points has this number, it stands under the bytes of the description, and its blocks spell this database.
pub record BlocksEndWith (desc : Described) (points : List BlockPoint) (n : ℕ) (db : Db) : Type 0 where
  pub before : List BlockPoint
  pub point : BlockPoint
  pub are : points ≡ before ++ point ∷ []
  pub number : point.number ≡ n
  pub schema : point.schema ≡ spelling desc
  pub spells : database_in desc point.blocks ≡ Some db

-- The last of these live points has this number, its Schema is that of the description, and its blocks spell this database.
pub record LivesEndWith (desc : Described) (points : List DescribedPoint) (n : ℕ) (db : Db) : Type 0 where
  pub before : List DescribedPoint
  pub point : DescribedPoint
  pub are : points ≡ before ++ point ∷ []
  pub number : point.number ≡ n
  pub schema : point.schema ≡ spelling desc
  pub spells : database_in desc point.blocks ≡ Some db

-- what is told of a live point: its number, and the database that its blocks spell, where its Schema is that of the description
abbrev pub told_live : Described → DescribedPoint → ℕ × Option Db
told_live desc p = (p.number, if bytes_eq p.schema (spelling desc) then database_in desc p.blocks else None)

-- One of these live points has the number of this quiet point, its Schema is that of the description, and its blocks spell the database.
pub record HasLive (desc : Described) (points : List DescribedPoint) (q : Quiet) : Type 0 where
  pub before : List DescribedPoint
  pub point : DescribedPoint
  pub after : List DescribedPoint
  pub are : points ≡ before ++ point ∷ after
  pub number : point.number ≡ q.0
  pub schema : point.schema ≡ spelling desc
  pub spells : database_in desc point.blocks ≡ Some q.1
