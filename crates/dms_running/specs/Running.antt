-- A database that runs: entries that wait to be sealed, its files, and what a stop leaves.
use Rattle.std.specs.Prelude.{ℕ, ◌+◌, ◌<◌, ◌≤◌, ◌≡◌, List, [], ◌∷◌, ◌++◌, take, length, None}
use Rattle.dms_moments.specs.Moments.{Clock, Now, Runs}
use Rattle.dms_site.specs.Files.{Files, Left, stored_of}
use Rattle.dms_history.specs.Events.{AllBlocks, quiet, block_in}
use Rattle.dms_history.specs.Lists.{after_last}
use Rattle.dms_history.specs.Places.{is_control}
use Rattle.dms_history.specs.Images.{last_after}
use Rattle.dms_history.specs.Points.{live_numbers}
use Rattle.dms_history.specs.Entries.{Entry, schema_part, image, byte_range, quiet_point, control_point, begin_restore}
use Rattle.dms_history.specs.EntryEvents.{live_of, live_entries, next_of}
use Rattle.dms_history.specs.Pick.{blocks_at}
use Rattle.dms_history.specs.SchemaAt.{schema_of}
use Rattle.dms_running.specs.Telling.{Telling}
use Rattle.dms_running.specs.Standing.{MayRun}
use Rattle.dms_running.specs.Points.{DescribedPoint, schema_bytes, points_told, points_of, LeavesPointsPrefix}
use Rattle.dms_running.specs.Sealing.{Settled}

-- what it holds in memory of its audit, what a read of the site gives, and what a stop leaves
pub record State : Type 1 where
  pub waiting : List Entry
  pub files : Files
  pub clock : Clock Left

-- all its entries, those that wait among them
abbrev pub entries_now : Telling → State → List Entry
entries_now t s = t.entries s.files ++ s.waiting

-- the number of the next quiet point
abbrev pub next_now : Telling → State → ℕ
next_now t s = next_of (entries_now t s)

-- all points so far, those whose entries wait among them
abbrev pub points_now : Telling → State → List DescribedPoint
points_now t s = points_told (t.dumps s.files) (entries_now t s) (stored_of s.files)

-- how many of them each stop leaves
abbrev pub durable_now : Telling → State → ℕ
durable_now t s = length (points_of t s.files)

-- the point that a quiet point would make now: it stands under the last live Schema
abbrev pub here_now : Telling → State → DescribedPoint
here_now t s = record {
  number = next_now t s;
  blocks = blocks_at (live_of (entries_now t s) ++ quiet (next_now t s) ∷ []) (stored_of s.files) (next_now t s);
  schema = schema_bytes (schema_of (live_entries (entries_now t s)));
}

-- the content
abbrev pub content_now : Telling → State → AllBlocks
content_now t s = (here_now t s).blocks

-- an entry that waits between two control points
abbrev pub IsPlainEntry : Entry → Type 0
IsPlainEntry (schema_part part parts bytes) = ⊥
IsPlainEntry (image f b before after) = Unit {0}
IsPlainEntry (byte_range f b place bytes) = Unit {0}
IsPlainEntry (quiet_point n) = Unit {0}
IsPlainEntry (control_point n next counts) = ⊥
IsPlainEntry (begin_restore n kind) = ⊥

abbrev pub AllPlain : List Entry → Type 0
AllPlain [] = Unit {0}
AllPlain (e ∷ es) = IsPlainEntry e × AllPlain es

-- how many points are live
abbrev pub count_live : List Entry → ℕ
count_live entries = length (live_numbers (live_of entries))

-- What holds of a database that runs at every moment: scanning finds the entries of each image that a stop leaves; there, with the first so
-- many of the entries that wait sealed besides, the database stands over one base, and no restore is pending.
pub record IsRunning (t : Telling) (s : State) : Type 0 where
  pub base : AllBlocks
  pub settled : Settled t s.files s.clock
  pub found : (x : Left) → Now s.clock x → t.found x.files
  pub each : (k : ℕ) (x : Left) → Now s.clock x → MayRun t.first (t.entries s.files ++ take k s.waiting) (t.dumps x.files) base (stored_of x.files)
  pub plain : AllPlain s.waiting
  -- Without the entries behind the first so many the next number is lower by no more than the points that are missing.
  pub counted : (k : ℕ) → next_now t s + count_live (t.entries s.files ++ take k s.waiting) ≤ next_of (t.entries s.files ++ take k s.waiting) + count_live (entries_now t s)

-- what is read is one of the things that a stop leaves
abbrev pub IsAnOutcome : State → Type 0
IsAnOutcome s = (x : Left) × Now s.clock x × (x.files ≡ s.files)

-- A stop from then on, up to a later clock, left the first so many of these points, at least those that each stop left then, or what
-- it could leave then.
abbrev pub LeavesPoints : Telling → List DescribedPoint → ℕ → State → Clock Left → Type 0
LeavesPoints t points next old later = Runs old.clock later (LeavesPointsPrefix t points (durable_now t old) next)

-- block b of file f has a sealed change since the last Control
abbrev pub IsLogged : Telling → Files → ℕ → ℕ → Type 0
IsLogged t files f b = last_after f b (after_last is_control (live_of (t.entries files))) ≡ None → ⊥

-- it has a change since the last Control, sealed or waiting
abbrev pub IsChanged : Telling → State → ℕ → ℕ → Type 0
IsChanged t s f b = last_after f b (after_last is_control (live_of (entries_now t s))) ≡ None → ⊥

-- each block stands in its structure file as the content has it
abbrev pub AllWritten : Telling → State → Type 0
AllWritten t s = (f b : ℕ) → b < length (content_now t s f) → stored_of s.files f b ≡ block_in (content_now t s) f b
