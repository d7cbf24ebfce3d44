-- A control point that makes a point, under a description of its own.
use Rattle.std.specs.Prelude.{ℕ, ◌+◌, ◌≡◌, List, [], ◌∷◌, ◌++◌}
use Rattle.dms_moments.specs.Moments.{Clock}
use Rattle.dms_site.specs.Files.{Left}
use Rattle.dms_history.specs.declared.event.FileCount.{FileCount}
use Rattle.dms_history.specs.Entries.{Entry, control_point}
use Rattle.dms_history.specs.Schemas.{schema_entries}
use Rattle.dms_history.specs.SchemaAt.{join_parts}
use Rattle.dms_running.specs.Telling.{Telling}
use Rattle.dms_running.specs.Points.{DescribedPoint, points_of, next_in}
use Rattle.dms_running.specs.Running.{State, content_now, next_now, LeavesPoints}

-- These entries are a whole Schema of these bytes and, directly behind it, a Control with these counts. Its number is the next one, and its next
-- number is the one behind that.
pub record IsLevel (t : Telling) (s : State) (schema : List ℕ) (counts : List FileCount) (es : List Entry) : Type 0 where
  pub first : List ℕ
  pub rest : List (List ℕ)
  pub joined : join_parts (first ∷ rest) ≡ schema
  pub is : es ≡ schema_entries (first ∷ rest) ++ control_point (next_in t s.files) (next_in t s.files + 1) counts ∷ []

-- the point that it makes: the content of now, under these bytes
abbrev pub level_point : Telling → State → List ℕ → DescribedPoint
level_point t s schema = record { number = next_now t s; blocks = content_now t s; schema = schema }

-- a stop leaves the points that these files hold, or that point behind them
abbrev pub LeavesLevel : Telling → State → List ℕ → Clock Left → Type 0
LeavesLevel t s schema later = LeavesPoints t (points_of t s.files ++ level_point t s schema ∷ []) (next_in t s.files + 1) s later
