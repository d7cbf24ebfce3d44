-- A block at a point, by the audit or by a dump.
use Rattle.std.specs.Prelude.{ℕ, ◌+◌, ◌==◌, max, if◌then◌else◌, List, [], ◌∷◌, map, Some, None}
use Rattle.std.specs.List.{range_with_len}
use Rattle.dms_history.specs.Events.{AllBlocks, Stored, Counts, Event, change, quiet, control, begin, block_in}
use Rattle.dms_history.specs.Lists.{until_first, after_first, after_last}
use Rattle.dms_history.specs.Places.{is_control, is_point}
use Rattle.dms_history.specs.Images.{last_after, value, choice}

-- The count of a file that the entries reach, from k on: a Control says it, and a change of a new block b raises it to b + 1 and never lowers it.
abbrev pub reached_count : ℕ → ℕ → List Event → ℕ
reached_count f k [] = k
reached_count f k (change g b None after ∷ es) = reached_count f (if g == f then max k (b + 1) else k) es
reached_count f k (change g b (Some before) after ∷ es) = reached_count f k es
reached_count f k (quiet n ∷ es) = reached_count f k es
reached_count f k (control n next counts described ∷ es) = reached_count f (counts f) es
reached_count f k (begin n how ∷ es) = reached_count f k es

-- The count of a file at point n: that of the last Control at or before the place of n, raised by each new block between the two.
unfoldable pub count_at : List Event → ℕ → Counts
count_at live n f = reached_count f 0 (until_first (is_point n) live)

-- A block at point n by the audit: the last after-image between the last Control at or before the place of n and that place;
-- else the before-image of the first change after the place; else what is stored.
unfoldable pub pick : List Event → ℕ → Stored → Stored
pick live n stored =
    choice (after_last is_control (until_first (is_point n) live)) (after_first (is_point n) live) stored

-- A dump: its point, its end, and all blocks of all files. One that is made at once ends at its point; one that is copied while programs run has
-- each block as it was at some point from the one to the other.
pub record Dump : Type 0 where
  pub point : ℕ
  pub end : ℕ
  pub blocks : AllBlocks

-- a dump for each number; of one that isn't present nothing is said
abbrev pub Dumps : Type 0
Dumps = ℕ → Dump

-- the entries between the places of points p and n
abbrev pub between : ℕ → ℕ → List Event → List Event
between p n live = after_first (is_point p) (until_first (is_point n) live)

-- A block at point n by a dump: the last after-image between the place of the dump's point and the place of n, else the dump's block.
unfoldable pub dump_pick : List Event → Dump → ℕ → Stored
dump_pick live dump n f b = value (last_after f b (between dump.point n live)) None (block_in dump.blocks f b)

-- the content that has so many blocks of each file
unfoldable pub content_of : Counts → Stored → AllBlocks
content_of counts blocks f = map (blocks f) (range_with_len 0 (counts f))

-- The content at point n. A block not below its file's count there isn't there.
unfoldable pub blocks_at : List Event → Stored → ℕ → AllBlocks
blocks_at live here n = content_of (count_at live n) (pick live n here)
