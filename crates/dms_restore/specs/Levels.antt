-- A control point that makes a point, of a log.
use Rattle.std.specs.Prelude.{ℕ, ◌+◌, ◌/◌, ◌≡◌, List, [], ◌∷◌, ◌++◌, length}
use Rattle.dms_site.specs.Files.{Only, stored_of}
use Rattle.dms_history.specs.Entries.{Entry, counts_in}
use Rattle.dms_audrec.specs.Reading.{counts_at}
use Rattle.dms_running.specs.Points.{DescribedPoint}
use Rattle.dms_running.specs.Running.{AllWritten}
use Rattle.dms_running.specs.Levels.{level_point}
use Rattle.dms_restore.specs.Logging as logs
use Rattle.dms_restore.specs.Logging.{LogView, telling, state, waits, LogRuns, LogLeaves, entries, points, durable, content}

-- Nothing waits, a stop now leaves what is read, all blocks stand, and the Control is one of the next number with the counts of the content.
pub record LevelBy (v : LogView) (number : ℕ) (counts : List ℕ) : Type 0 where
  pub nothing : waits v.end ≡ []
  pub only : Only v.files v.clock
  pub written : AllWritten (telling v) (state v)
  pub number_is : number ≡ logs.next v
  pub count : (f : ℕ) → counts_in (counts_at (length counts / 8) counts) f ≡ length (content v f)

-- the point that it makes: the next number, the content of now, and these bytes of a description
abbrev pub levelled : LogView → List ℕ → DescribedPoint
levelled v schema = level_point (telling v) (state v) schema

-- a stop from then to now left the points of then, or that one behind them, or what it could leave then
abbrev pub LevelLeaves : LogView → LogView → List ℕ → Type 0
LevelLeaves a b schema = LogLeaves a b (points a ++ levelled a schema ∷ []) (logs.next a + 1)

-- These entries were sealed, and nothing waits. The database runs with the same content, and its points are the old ones and that one, all of them
-- durable; the next number rose by one. No structure file changed, and a stop now leaves what is read.
pub record LevelledAt (a b : LogView) (schema : List ℕ) (es : List Entry) : Type 0 where
  pub runs : LogRuns b
  pub entries_are : entries b ≡ entries a ++ es
  pub nothing : waits b.end ≡ []
  pub content_same : content b ≡ content a
  pub points_are : points b ≡ points a ++ levelled a schema ∷ []
  pub all_durable : durable b ≡ length (points a) + 1
  pub next_is : logs.next b ≡ logs.next a + 1
  pub blocks_same : stored_of b.files ≡ stored_of a.files
  pub only : Only b.files b.clock
