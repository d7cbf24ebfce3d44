-- The end of an audit trail over its files, as a running database.
use Rattle.std.specs.Prelude.{ℕ, ◌+◌, ◌<◌, ◌≤◌, ◌==◌, ◌≡◌, Bool, true, List, [], ◌∷◌, ◌++◌, length, take, Option}
use Rattle.dms_moments.specs.Moments.{Clock, Steps}
use Rattle.dms_site.specs.Files.{Files, Left, stored_of}
use Rattle.dms_history.specs.Events.{BlockBytes, AllBlocks, block_in}
use Rattle.dms_history.specs.Replay.{with_block}
use Rattle.dms_history.specs.Lists.{has, after_last}
use Rattle.dms_history.specs.Ranges.{patch_bytes, is_control_logged, is_image, live_logged}
use Rattle.dms_history.specs.Entries.{Entry, image, byte_range, quiet_point}
use Rattle.dms_history.specs.EntryEvents.{events_in}
use Rattle.dms_audfile.specs.declared.audit_end.AuditEnd.{AuditEnd}
use Rattle.dms_audfile.specs.Blocks.{block_entries}
use Rattle.dms_audfile.specs.Header.{tag_said}
use Rattle.dms_audfile.specs.Unsealed.{block_with}
use Rattle.dms_audfile.specs.TrailEntries.{entries_of, entries_in, trail_entries}
use Rattle.dms_audfile.specs.BlockLaws.{AreNoBegins}
use Rattle.dms_audfile.specs.Ends.{unsealed_bytes, full_blocks, EndsAt, Grown}
use Rattle.dms_running.specs.Telling.{Telling}
use Rattle.dms_running.specs.Points.{DescribedPoint}
use Rattle.dms_running.specs.Running.{State, entries_now, next_now, points_now, durable_now, here_now, content_now, IsRunning, IsChanged, LeavesPoints}
use Rattle.dms_restore.specs.Dumped.{IsDumpFound, dumps_of}
use Rattle.dms_restore.specs.Finding.{IsFoundFrom}

-- what files tell of which the trail begins with file `first` and has so many blocks a file
abbrev pub telling_of : ℕ → ℕ → Telling
telling_of total first = record { first = first == 10001; entries = trail_entries total first; dumps = dumps_of; found = IsFoundFrom total first; dump_found = IsDumpFound first }

-- the entries that wait: those of the full blocks, and those of the block that is filled
unfoldable pub waits : AuditEnd → List Entry
waits end = entries_in (full_blocks end) ++ entries_of (block_entries (block_with (unsealed_bytes end)))

-- the end of a trail, its first file, what a read of the site gives, and what a stop leaves
pub record LogView : Type 1 where
  pub end : AuditEnd
  pub first : ℕ
  pub files : Files
  pub clock : Clock Left

abbrev pub view : AuditEnd → ℕ → Files → Clock Left → LogView
view end first files clock = record { end = end; first = first; files = files; clock = clock }

abbrev pub telling : LogView → Telling
telling v = telling_of v.end.total v.first

-- which trail it is: how many blocks its files have, and its first file
pub record Trail : Type 0 where
  pub total : ℕ
  pub first : ℕ

abbrev pub trail_of : LogView → Trail
trail_of v = record { total = v.end.total; first = v.first }

abbrev pub state : LogView → State
state v = record { waiting = waits v.end; files = v.files; clock = v.clock }

-- The trail ends where it is said to, and nothing of its files is pending.
abbrev pub Ends : LogView → Type 0
Ends v = EndsAt v.end v.first (waits v.end) v.files v.clock

-- so it is, and no entry waits
abbrev pub EndsSealed : LogView → Type 0
EndsSealed v = EndsAt v.end v.first [] v.files v.clock

-- The trail ends where it is said to, and some entries wait, none of which is a Begin: others may be appended.
pub record TakesEntries (v : LogView) : Type 0 where
  pub waiting : List Entry
  pub ends : EndsAt v.end v.first waiting v.files v.clock
  pub plain : AreNoBegins waiting

-- The trail is the one of before and some blocks behind it, each of which is in its grammar and holds an entry, and its tag is the same.
pub record TrailKept (total first : ℕ) (old new : Files) : Type 0 where
  pub grown : Grown total first old new
  pub tag : tag_said (new first) ≡ tag_said (old first)

-- So it is of what a stop leaves, and the audit files before the trail are as they were.
pub record LeavesTrail (total first : ℕ) (old new : Left) : Type 0 where
  pub kept : TrailKept total first old.files new.files
  pub below : (g : ℕ) → 10000 < g → g < first → new.files g ≡ old.files g

-- The trail ends where it is said to, and the database runs.
pub record LogRuns (v : LogView) : Type 0 where
  pub ends : Ends v
  pub runs : IsRunning (telling v) (state v)

-- the points so far, how many of them each stop leaves, the one that a quiet point would make, the next number, the content
abbrev pub points : LogView → List DescribedPoint
points v = points_now (telling v) (state v)

abbrev pub durable : LogView → ℕ
durable v = durable_now (telling v) (state v)

abbrev pub here : LogView → DescribedPoint
here v = here_now (telling v) (state v)

abbrev pub next : LogView → ℕ
next v = next_now (telling v) (state v)

abbrev pub content : LogView → AllBlocks
content v = content_now (telling v) (state v)

-- block b of file f has a change since the last Control, sealed or waiting
abbrev pub IsChangedBlock : LogView → ℕ → ℕ → Type 0
IsChangedBlock v f b = IsChanged (telling v) (state v) f b

-- A stop from then to now left the first so many of these points, at least those that were durable then, or what it could leave then.
abbrev pub LogLeaves : LogView → LogView → List DescribedPoint → ℕ → Type 0
LogLeaves a b points next = LeavesPoints (telling a) points next (state a) b.clock

-- nothing is printed
abbrev pub PrintsNothing : Left → Left → Type 0
PrintsNothing old new = new.said ≡ old.said

-- all entries, those that wait among them
abbrev pub entries : LogView → List Entry
entries v = entries_now (telling v) (state v)

-- an Image itself of block b of file f waits
abbrev pub waits_image : LogView → ℕ → ℕ → Bool
waits_image v f b = has (is_image f b) (events_in (waits v.end))

-- block b of file f has an Image itself since the last Control, sealed or waiting
abbrev pub IsImagedBlock : LogView → ℕ → ℕ → Type 0
IsImagedBlock v f b = has (is_image f b) (after_last is_control_logged (live_logged [] (events_in (entries v)))) ≡ true

-- Files hold at most so many entries more than a log has, waiting ones among them.
abbrev pub FilesGrew : ℕ → LogView → Files → Type 0
FilesGrew n v files = length ((telling v).entries files) ≤ length (entries v) + n

-- The trail is the old one and blocks behind it, now and at each stop.
pub record LogStays (a b : LogView) : Type 0 where
  pub kept : TrailKept a.end.total a.first a.files b.files
  pub left : Steps (LeavesTrail a.end.total a.first) a.clock b.clock

-- So it is, and its files hold no more entries than the log had, waiting ones among them, and n more.
pub record LogGrows (n : ℕ) (a b : LogView) : Type 0 where
  pub stays : LogStays a b
  pub few : FilesGrew n a b.files

-- An Image was logged: it stands behind the old entries, the content has the block, and no structure file changed.
pub record LogsImage (a b : LogView) (f k : ℕ) (before : Option BlockBytes) (after : BlockBytes) : Type 0 where
  pub entries_are : entries b ≡ entries a ++ image f k before after ∷ []
  pub points_same : points b ≡ points a
  pub next_same : next b ≡ next a
  pub content_is : content b ≡ with_block (content a) f k after
  pub blocks_same : stored_of b.files ≡ stored_of a.files

-- A Range was logged: it stands behind the old entries, the content has its bytes over the block, and no structure file changed.
pub record LogsRange (a b : LogView) (f k place : ℕ) (bytes : List ℕ) : Type 0 where
  pub entries_are : entries b ≡ entries a ++ byte_range f k place bytes ∷ []
  pub points_same : points b ≡ points a
  pub next_same : next b ≡ next a
  pub content_is : content b ≡ with_block (content a) f k (patch_bytes place bytes (block_in (content a) f k))
  pub blocks_same : stored_of b.files ≡ stored_of a.files

-- A quiet point was made, with the content of now, and no structure file changed.
pub record LogsQuiet (a b : LogView) : Type 0 where
  pub entries_are : entries b ≡ entries a ++ quiet_point (next a) ∷ []
  pub points_are : points b ≡ points a ++ here a ∷ []
  pub next_is : next b ≡ next a + 1
  pub content_same : content b ≡ content a
  pub blocks_same : stored_of b.files ≡ stored_of a.files

-- Entries, points, next number and content are the same, no fewer points are durable, and no structure file changed.
pub record LogsNothing (a b : LogView) : Type 0 where
  pub entries_same : entries b ≡ entries a
  pub points_same : points b ≡ points a
  pub next_same : next b ≡ next a
  pub content_same : content b ≡ content a
  pub blocks_same : stored_of b.files ≡ stored_of a.files
  pub durable_kept : durable a ≤ durable b

-- The audit has no room: all that waited is sealed, and nothing more was logged. The database runs with the same entries, points, next
-- number and content, and all points are durable.
pub record SealsWaiting (a b : LogView) : Type 0 where
  pub runs : LogRuns b
  pub nothing : waits b.end ≡ []
  pub entries_same : entries b ≡ entries a
  pub points_same : points b ≡ points a
  pub next_same : next b ≡ next a
  pub content_same : content b ≡ content a
  pub all_durable : durable b ≡ length (points a)

-- Entries, points, next number and content are the same, and as many points are durable.
pub record LogsWrite (a b : LogView) : Type 0 where
  pub entries_same : entries b ≡ entries a
  pub points_same : points b ≡ points a
  pub next_same : next b ≡ next a
  pub content_same : content b ≡ content a
  pub durable_same : durable b ≡ durable a

-- The first so many of these entries were logged, and nothing else.
pub record LogsPart (a b : LogView) (es : List Entry) : Type 0 where
  pub some : ℕ
  pub entries_are : entries b ≡ entries a ++ take some es
