-- A dump of which each block was copied at some live point, and that it serves.
use Rattle.std.specs.Prelude.{ℕ, ◌<◌, ◌≤◌, ◌≡◌, List, length}
use Rattle.dms_history.specs.Events.{AllBlocks, Stored, Event, block_in}
use Rattle.dms_history.specs.Places.{IsLive}
use Rattle.dms_history.specs.Pick.{Dump, blocks_at, count_at}
use Rattle.dms_history.specs.Base.{Sound, from_control}
use Rattle.dms_history.specs.Agrees.{Numbered}
use Rattle.dms_history.specs.Restores.{DumpServes, IsTrueDump}

-- the dump has this block as it was at a live point, from the dump's point to its end
pub record CopiedAt (dump : Dump) (live : List Event) (counted : Stored) (f b : ℕ) : Type 0 where
  pub point : ℕ
  pub lives : IsLive live point
  pub low : dump.point ≤ point
  pub high : point ≤ dump.end
  pub same : block_in dump.blocks f b ≡ block_in (blocks_at live counted point) f b

-- A dump was copied from a database: its point and its end are live, the end isn't before the point, and it has the blocks that were there at its point,
-- each as it was at some live point from the one to the other.
pub record IsCopiedDump (dump : Dump) (live : List Event) (counted : Stored) : Type 0 where
  pub point_lives : IsLive live dump.point
  pub end_lives : IsLive live dump.end
  pub order : dump.point ≤ dump.end
  pub counts : (f : ℕ) → length (dump.blocks f) ≡ count_at live dump.point f
  pub each : (f b : ℕ) → b < count_at live dump.point f → CopiedAt dump live counted f b

-- Such a dump serves each point from its end on.
abbrev pub CopiedDumpServes : Type 0
CopiedDumpServes = (live : List Event) (base : AllBlocks) (next m : ℕ) (dump : Dump) (here : Stored) → Sound (from_control live) base here → Numbered live next → IsLive live m
    → IsCopiedDump dump live here → dump.end ≤ m → DumpServes dump live here m

-- A true dump that ends at its point is one.
abbrev pub TrueDumpIsCopied : Type 0
TrueDumpIsCopied = (live : List Event) (dump : Dump) (counted : Stored) → dump.end ≡ dump.point → IsTrueDump dump live counted → IsCopiedDump dump live counted
