-- A control point that makes a point, of a running database.
use Rattle.std.specs.Prelude.{ℕ, ◌+◌, ◌≡◌, List, [], ◌∷◌, ◌++◌}
use Rattle.dms_block.specs.Held.{BlockPoint, Held}
use Rattle.dms_restore.specs.Levels.{levelled}
use Rattle.dms_restore.specs.Logging as logs
use Rattle.dms_restore.specs.Logging.{LogView, LogRuns, entries, points, content}
use Rattle.dms_wal.specs.Closing.{entries_control}
use Rattle.dms_wal.specs.Controls.{IsSettled}

-- the point that it makes: the next number, the content of now, and these bytes of a description
abbrev pub level_of : Held → List ℕ → BlockPoint
level_of a schema = record { number = a.next; blocks = a.content; schema = schema }

-- A point was made: the whole Schema of a description and, directly behind it, a Control of the next number with these counts are sealed behind all entries
-- that there were. The points are the old ones and that one, the next number rose by one, and the content is the same. The database runs, each block stands
-- in its file, and a stop now leaves what is read.
pub record MakesLevel (a b : LogView) (schema counts : List ℕ) : Type 0 where
  pub entries_are : entries b ≡ entries a ++ entries_control (logs.next a) schema (logs.next a + 1) counts
  pub points_are : points b ≡ points a ++ levelled a schema ∷ []
  pub next_is : logs.next b ≡ logs.next a + 1
  pub content_same : content b ≡ content a
  pub runs : LogRuns b
  pub settled : IsSettled b
