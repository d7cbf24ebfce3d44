-- A dump of which each block is as it was at one of the points that files hold.
use Rattle.std.specs.Prelude.{ℕ, ◌<◌, ◌≤◌, ◌≡◌, Bool, List, ◌∷◌, ◌++◌, length, Some}
use Rattle.dms_history.specs.Events.{AllBlocks, Stored, block_in}
use Rattle.dms_history.specs.Copied.{IsCopiedDump}
use Rattle.dms_history.specs.Here.{here}
use Rattle.dms_history.specs.History.{last_point}
use Rattle.dms_history.specs.Pick.{Dump, Dumps, count_at}
use Rattle.dms_history.specs.Places.{IsLive}
use Rattle.dms_history.specs.Entries.{Entry}
use Rattle.dms_history.specs.EntryEvents.{history_of, live_of}
use Rattle.dms_running.specs.Points.{DescribedPoint, points_told}
use Rattle.dms_running.specs.Standing.{Stands}

-- These bytes are block b of file f at one of these points, which isn't before the low one.
pub record IsAtDescribed (points : List DescribedPoint) (low f b : ℕ) (bytes : List ℕ) : Type 0 where
  pub before : List DescribedPoint
  pub point : DescribedPoint
  pub after : List DescribedPoint
  pub are : points ≡ before ++ point ∷ after
  pub not_below : low ≤ point.number
  pub same : bytes ≡ block_in point.blocks f b

-- The point of a dump is live, its end is the last point, it has as many blocks as there were at its point, and each is as it was at one of the points from
-- there on: so it was copied from the database.
abbrev pub CopiesAtPoints : Type 0
CopiesAtPoints = (first : Bool) (es : List Entry) (dumps : Dumps) (base : AllBlocks) (stored : Stored) (dump : Dump) → Stands first es dumps base stored → IsLive (live_of es) dump.point → last_point (history_of es) ≡ Some dump.end
    → ((f : ℕ) → length (dump.blocks f) ≡ count_at (live_of es) dump.point f)
    → ((f b : ℕ) → b < count_at (live_of es) dump.point f → IsAtDescribed (points_told dumps es stored) dump.point f b (block_in dump.blocks f b))
    → IsCopiedDump dump (live_of es) (here dumps (history_of es) stored)
