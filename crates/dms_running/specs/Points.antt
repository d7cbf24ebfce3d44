-- The points that files hold, and how many of some points a stop leaves.
use Rattle.std.specs.Prelude.{ℕ, ◌+◌, ◌≤◌, ◌≡◌, List, [], length, map, take, Option, Some, None}
use Rattle.dms_site.specs.Files.{Files, Left, stored_of}
use Rattle.dms_history.specs.Events.{AllBlocks, Stored}
use Rattle.dms_history.specs.Pick.{Dumps}
use Rattle.dms_history.specs.Here.{here}
use Rattle.dms_history.specs.Points.{LivePoint, live_points}
use Rattle.dms_history.specs.Entries.{Entry}
use Rattle.dms_history.specs.EntryEvents.{history_of, live_of, next_of}
use Rattle.dms_history.specs.SchemaAt.{schema_at}
use Rattle.dms_running.specs.Telling.{Telling}
use Rattle.dms_running.specs.Standing.{IsWhole}

-- a live point: its number, its blocks, and the bytes of the Schema there
pub record DescribedPoint : Type 0 where
  pub number : ℕ
  pub blocks : AllBlocks
  pub schema : List ℕ

-- the bytes of a Schema, none where there is no Schema
abbrev pub schema_bytes : Option (List ℕ) → List ℕ
schema_bytes None = []
schema_bytes (Some bytes) = bytes

-- a live point under the Schema that these entries tell there
abbrev pub described_in : List Entry → LivePoint → DescribedPoint
described_in entries p = record { number = p.number; blocks = p.blocks; schema = schema_bytes (schema_at entries p.number) }

-- the live points of entries with their contents and their Schemas, in the order of their places
abbrev pub points_told : Dumps → List Entry → Stored → List DescribedPoint
points_told dumps entries stored = map (described_in entries) (live_points (live_of entries) (here dumps (history_of entries) stored))

-- the live points that files hold
abbrev pub points_of : Telling → Files → List DescribedPoint
points_of t files = points_told (t.dumps files) (t.entries files) (stored_of files)

-- the next number by the files
abbrev pub next_in : Telling → Files → ℕ
next_in t files = next_of (t.entries files)

-- A stop leaves the first so many of these points, at least the durable ones, each with its content and its Schema, in files that hold a database. The
-- next number has fallen from this one by no more than the points that are missing, and hasn't risen.
pub record LeavesPointsPrefix (t : Telling) (points : List DescribedPoint) (durable next : ℕ) (x : Left) : Type 0 where
  pub count : ℕ
  pub enough : durable ≤ count
  pub within : count ≤ length points
  pub is : points_of t x.files ≡ take count points
  pub not_fallen : next + count ≤ next_in t x.files + length points
  pub not_risen : next_in t x.files ≤ next
  pub whole : IsWhole t x.files
