-- Laws: what files stand for that hold a database with the points of another one.
use Rattle.std.specs.Prelude.{ℕ, Bool}
use Rattle.dms_desc.specs.Shape.{Described}
use Rattle.dms_model.specs.Db.{Db}
use Rattle.dms_site.specs.Files.{Files, Left}
use Rattle.dms_running.specs.AnyBegun.{IsUntouched}
use Rattle.dms_running.specs.AnyLaws.{HoldsSame}
use Rattle.dms_running.specs.Standing.{IsWhole}
use Rattle.dms_restore.specs.Finding.{IsFoundFrom}
use Rattle.dms_restore.specs.Logging.{telling_of}
use Rattle.dms_opening.specs.Openings.{IsTrailFound}
use Rattle.dms_run.specs.State.{StateAt, StateOf}
use Rattle.dms_statelaws.specs.Dumps.{SameBesideBlocks, SameBesideNamed, HasCopiedDump}
use Rattle.dms_statelaws.specs.Standing.{StandsFrom, HoldsStill}
use Rattle.dms_recovery.specs.Leaving.{HoldsUpTo, IsRebuiltFrom, IsMendedFrom}

-- Files that stand for a state at a point hold a database, along the trail that is found in them.
abbrev pub StatesAreWhole : Type 0
StatesAreWhole = (total first : ℕ) (files : Files) (n : ℕ) (desc : Described) (db : Db) → IsTrailFound total first files → StateAt files n desc db → IsWhole (telling_of total first) files

-- Files with exactly the points of others up to m stand for the state that those had at m; with all their points they stand for their state.
pub record PointsStand : Type 0 where
  pub up_to : (total first : ℕ) (old : Files) (m : ℕ) (desc : Described) (db : Db) (new : Files) → IsWhole (telling_of total first) old → StateAt old m desc db → HoldsUpTo (telling_of total first) old m new
      → StandsFrom old m desc db new
  pub all : (total first : ℕ) (old : Files) (n : ℕ) (desc : Described) (db : Db) (new : Files) → IsWhole (telling_of total first) old → StateOf old n desc db → HoldsSame (telling_of total first) old new
      → StandsFrom old n desc db new

-- Where nothing was done scanning finds the same entries, and the files are the same.
abbrev pub UntouchedStays : Type 0
UntouchedStays = (total first : ℕ) (files : Files) (x : Left) → IsFoundFrom total first files → IsUntouched (telling_of total first) files x → IsFoundFrom total first x.files → HoldsStill files x.files

-- A database with a state that differs from these files in structure files or in named blocks alone, and from which the dump was copied, is one that may
-- be rebuilt, or mended, from that dump.
pub record StatesAreRebuilt : Type 0 where
  pub rebuilt : (total first : ℕ) (files u : Files) (d n : ℕ) (desc : Described) (db : Db) → IsTrailFound total first files → SameBesideBlocks files u → HasCopiedDump u d → StateAt u n desc db → IsRebuiltFrom total first files u d
  pub mended : (total first : ℕ) (files u : Files) (d n : ℕ) (desc : Described) (db : Db) (named : ℕ → ℕ → Bool) → IsTrailFound total first files → SameBesideNamed named files u → HasCopiedDump u d → StateAt u n desc db
      → IsMendedFrom total first files u d named
