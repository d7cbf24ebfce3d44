-- What the restore that is pending writes, as it is planned from the history that is kept in memory.
use Rattle.std.specs.Prelude.{ℕ, ◌+◌, ◌*◌, ◌<◌, ◌≤◌, ◌≡◌, ◌⊎◌, true, List, [], ◌∷◌, length, Option, Some, None}
use Rattle.dms_site.specs.Files.{Files}
use Rattle.dms_history.specs.Events.{How, halt_load, back_out, roll_back, rebuild, reconstruct}
use Rattle.dms_history.specs.History.{Pending}
use Rattle.dms_history.specs.Lists.{until_first, after_first}
use Rattle.dms_history.specs.Pick.{count_at}
use Rattle.dms_history.specs.Ranges.{Logged, all_changes, is_point_logged}
use Rattle.dms_history.specs.Entries.{counts_in}
use Rattle.dms_audrec.specs.Spelling.{counts_rise}
use Rattle.dms_dump.specs.Head.{Head, head_size}
use Rattle.dms_dump.specs.Body.{blocks_before}
use Rattle.dms_dump.specs.HeadSeen.{head_seen}
use Rattle.dms_dump.specs.Judged.{dump_read, sealed}
use Rattle.dms_dump.specs.declared.reading.DumpHead.{DumpHead}
use Rattle.dms_history.specs.declared.event.Row.{Row}
use Rattle.dms_restore.specs.declared.live.HowAt.{HowAt}
use Rattle.dms_restore.specs.declared.live.LiveEntry.{LiveEntry}
use Rattle.dms_restore.specs.declared.live.PendingAt.{PendingAt}
use Rattle.dms_restore.specs.declared.restore_table.RestoreTable.{RestoreTable}
use Rattle.dms_restore.specs.declared.run.Run.{Run}
use Rattle.dms_restore.specs.declared.told.Told.{Told}
use Rattle.dms_restore.specs.Counts.{count_of}
use Rattle.dms_restore.specs.Dumped.{dumps_of}
use Rattle.dms_restore.specs.LiveEntries.{logged_live, AllStandWhole}
use Rattle.dms_restore.specs.ByDump.{PlansByDump}
use Rattle.dms_restore.specs.Table.{IsPlan, IsPlanOf}
use Rattle.dms_restore.specs.Tracing.{IsPendingAt, MatchesHow}

-- The head of dump d, from 1 to 9,999, is this one.
abbrev pub HasHead : Files → ℕ → Option DumpHead → Type 0
HasHead files d None = ⊥
HasHead files d (Some h) = (1 ≤ d) × (d ≤ 9999) × (dump_read (files (20000 + d)) ≡ sealed (head_seen h))

-- So it is of the dump of a restore; one by the audit needs none.
abbrev pub IsHeadFor : Files → How → Option DumpHead → Type 0
IsHeadFor files halt_load head = Unit {0}
IsHeadFor files back_out head = Unit {0}
IsHeadFor files roll_back head = Unit {0}
IsHeadFor files (rebuild d) head = HasHead files d head
IsHeadFor files (reconstruct d named) head = HasHead files d head

-- Its counts are those of structure files, rising, of at most 200.
abbrev pub IsFitHead : DumpHead → Type 0
IsFitHead h = (counts_rise 30001 h.counts.items ≡ true) × (length h.counts.items ≤ 200)

-- these are the counts at the point of a restore
abbrev pub AreCountsAt : List ℕ → Pending → Type 0
AreCountsAt counts p = (f : ℕ) → count_of counts f ≡ count_at p.entries p.point f

-- ---- the runs of a dump

-- Blocks of a structure file that the dump has and the point has, where they stand in the file of the dump.
pub record IsRunOf (h : Head) (d : ℕ) (counts : List ℕ) (r : Run) : Type 0 where
  pub some : 0 < r.blocks
  pub dump_is : r.dump ≡ 20000 + d
  pub dumped : r.block + r.blocks ≤ counts_in h.counts r.file
  pub counted : r.block + r.blocks ≤ count_of counts r.file
  pub place : r.at ≡ 1 + head_size h + 1024 * (blocks_before r.file h.counts + r.block)

abbrev pub AreRunsOf : Head → ℕ → List ℕ → List Run → Type 0
AreRunsOf h d counts [] = Unit {0}
AreRunsOf h d counts (r ∷ rs) = IsRunOf h d counts r × AreRunsOf h d counts rs

-- the block is in the run, and in one of them
abbrev pub IsInRun : ℕ → ℕ → Run → Type 0
IsInRun f b r = (r.file ≡ f) × (r.block ≤ b) × (b < r.block + r.blocks)

abbrev pub IsInRuns : ℕ → ℕ → List Run → Type 0
IsInRuns f b [] = ⊥
IsInRuns f b (r ∷ rs) = IsInRun f b r ⊎ IsInRuns f b rs

-- ---- the entries of a point

-- Of live entries those up to the place of point m, and those behind it. What they say stands whole.
pub record CutsAt (files : Files) (logged : List Logged) (m : ℕ) (front behind : List LiveEntry) : Type 0 where
  pub until : until_first (is_point_logged m) logged ≡ logged_live files front
  pub after : after_first (is_point_logged m) logged ≡ logged_live files behind
  pub front_whole : AllStandWhole files front
  pub behind_whole : AllStandWhole files behind

-- Whatever live entries and point these are, runs and table are what a restore by dump d writes, where the dump has this head and the point
-- these counts.
abbrev pub PlansDump : How → ℕ → DumpHead → List ℕ → List LiveEntry → List LiveEntry → List Run → List Told → Type 0
PlansDump how d head counts front behind runs told = (files : Files) (logged : List Logged) (m : ℕ) → CutsAt files logged m front behind → HasHead files d (Some head)
    → ((f : ℕ) → count_of counts f ≡ count_at (all_changes logged) m f) → PlansByDump how (dumps_of files d) (all_changes logged) m files runs told

-- So they are of a restore of any kind, with these rows and this head of its dump.
abbrev pub PlansCut : HowAt → List Row → Option DumpHead → List ℕ → List LiveEntry → List LiveEntry → RestoreTable → Type 0
PlansCut at rows head counts front behind t = (files : Files) (logged : List Logged) (m : ℕ) (how : How) → MatchesHow at rows how → CutsAt files logged m front behind → IsHeadFor files how head
    → ((f : ℕ) → count_of counts f ≡ count_at (all_changes logged) m f) → IsPlanOf how (dumps_of files) (all_changes logged) m files t.runs.items t.told.items

-- In all files in which these entries stand whole and a restore is pending at that place, with these counts and the head of its dump, the
-- table is what that restore writes.
abbrev pub PlansPending : List LiveEntry → List LiveEntry → List Row → PendingAt → List ℕ → Option DumpHead → RestoreTable → Type 0
PlansPending live removed rows at counts head t = (files : Files) (p : Pending) → IsPendingAt files live removed at p → AllStandWhole files live → AllStandWhole files removed → MatchesHow at.how rows p.how → AreCountsAt counts p → IsHeadFor files p.how head → IsPlan p files t
