-- The laws of a run, whatever keeps its database.
use Rattle.std.specs.Prelude.{ℕ, ◌≡◌, List, length, map}
use Rattle.std.specs.declared.option.Option.{Option}
use Rattle.dms_block.specs.Held.{BlockPoint}
use Rattle.dms_desc.specs.Shape.{Described}
use Rattle.dms_model.specs.Db.{Db}
use Rattle.dms_model.specs.Points.{Point, Quiet, Stop}
use Rattle.dms_runner.specs.Answers.{last_quiet}
use Rattle.dms_runner.specs.EventLaws.{any}
use Rattle.dms_runner.specs.Events.{RunEvent, quiets_of, CrashesWithin}
use Rattle.dms_storeverbs.specs.View.{PointsGrow}
use Rattle.dms_store.specs.Lifted.{point_of}
use Rattle.dms_running.specs.Points.{DescribedPoint}
use Rattle.dms_wal.specs.Lifting.{block_point}
use Rattle.dms_run.specs.States.{EndsWith, BlocksEndWith, LivesEndWith}
use Rattle.dms_run.specs.Stops.{last_quiet_number, RunLeaves, RunAllows}

-- A stop within these events, before which all points were durable, leaves what a run leaves.
abbrev pub StopsLaw : Type 0
StopsLaw = (entry : Option (List ℕ)) (points : List Point) (n : ℕ) (db : Db) (next : ℕ) (events : List RunEvent) (stop : Stop)
    → EndsWith points n db → CrashesWithin any entry points (length points) next events stop → RunLeaves any entry points n db next events stop

-- Where all that was made stands, the points end with the last quiet point, or with the point of entry.
abbrev pub EndsLaw : Type 0
EndsLaw = (points after : List Point) (n : ℕ) (db : Db) (quiets : List Quiet) → EndsWith points n db → PointsGrow points quiets after
    → EndsWith after (last_quiet_number n quiets) (last_quiet db quiets)

-- What a run leaves ends with the database of entry or of a quiet point, and keeps the points of entry.
abbrev pub AllowsLaw : Type 0
AllowsLaw = (entry : Option (List ℕ)) (points : List Point) (n : ℕ) (db : Db) (next : ℕ) (events : List RunEvent) (stop : Stop)
    → RunLeaves any entry points n db next events stop → RunAllows points n db (quiets_of events) stop

-- Points end with one number and one database at most.
abbrev pub OneStateLaw : Type 0
OneStateLaw = (points : List Point) (n m : ℕ) (a b : Db) → EndsWith points n a → EndsWith points m b → (n ≡ m) × (a ≡ b)

-- The points of blocks end with a database where the last ones' blocks spell it under this description.
pub record BlocksLaw : Type 0 where
  pub seen : (desc : Described) (points : List BlockPoint) (n : ℕ) (db : Db) → BlocksEndWith desc points n db → EndsWith (map (point_of desc) points) n db
  pub are : (desc : Described) (points : List BlockPoint) (n : ℕ) (db : Db) → EndsWith (map (point_of desc) points) n db → BlocksEndWith desc points n db

-- And so do the live points that the files of a running database hold.
pub record LivesLaw : Type 0 where
  pub seen : (desc : Described) (points : List DescribedPoint) (n : ℕ) (db : Db) → LivesEndWith desc points n db → BlocksEndWith desc (map block_point points) n db
  pub are : (desc : Described) (points : List DescribedPoint) (n : ℕ) (db : Db) → BlocksEndWith desc (map block_point points) n db → LivesEndWith desc points n db
