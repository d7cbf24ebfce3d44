-- The opening of a database: what it does to its files, what a stop within it leaves, and why it is refused.
use Rattle.std.specs.Prelude.{ℕ, ◌+◌, ◌-◌, ◌<◌, ◌≤◌, ◌≡◌, ◌⊎◌, true, List, [], ◌∷◌, ◌++◌, if◌then◌else◌, slice_index_or, length, map, None, Some}
use Rattle.std.specs.declared.option.Option.{Option}
use Rattle.dms_desc.specs.Shape.{Described}
use Rattle.dms_desc_bytes.specs.Spelling.{spelling}
use Rattle.dms_desc_bytes.specs.WellFormed.{IsWellFormed}
use Rattle.dms_moments.specs.Moments.{Runs, Steps}
use Rattle.dms_site.specs.declared.site.Site.{Ghosts}
use Rattle.dms_site.specs.Files.{Files, Left, Only, Same}
use Rattle.dms_block.specs.Held.{Held}
use Rattle.dms_history.specs.History.{Pending}
use Rattle.dms_history.specs.Pick.{count_at}
use Rattle.dms_history.specs.Entries.{Entry, begin_restore, by_halt_load, control_point}
use Rattle.dms_history.specs.EntryEvents.{history_of, live_of, next_of}
use Rattle.dms_history.specs.Schemas.{schema_entries}
use Rattle.dms_history.specs.SchemaAt.{schema_at}
use Rattle.dms_audfile.specs.AuditTrail.{IsFound}
use Rattle.dms_audfile.specs.Gates.{is_full}
use Rattle.dms_audfile.specs.Reads.{Refuses}
use Rattle.dms_audfile.specs.Sealing.{IsWrittenUpTo}
use Rattle.dms_audfile.specs.TrailEntries.{trail_entries}
use Rattle.dms_audfile.specs.declared.fault.AudFault.{AudFault}
use Rattle.dms_audfile.specs.declared.fault.AudFault.TheVariants as aud
use Rattle.dms_audfile.specs.declared.place.EntryPlace.{EntryPlace}
use Rattle.dms_running.specs.Telling.{Telling}
use Rattle.dms_running.specs.Standing.{IsWhole}
use Rattle.dms_running.specs.Points.{points_of, next_in}
use Rattle.dms_running.specs.Running.{AllWritten}
use Rattle.dms_opening.specs.declared.choosing.OpenFault.{OpenFault}
use Rattle.dms_opening.specs.declared.choosing.OpenFault.TheVariants.{Audit}
use Rattle.dms_opening.specs.declared.choosing.Choice.{Choice}
use Rattle.dms_audrec.specs.Bodies.{bodies}
use Rattle.dms_opening.specs.declared.asked.Asked.TheVariants.{HaltLoad}
use Rattle.dms_opening.specs.Choices.{Chooses, judge_files}
use Rattle.dms_restore.specs.Counts.{count_of, file_counts}
use Rattle.dms_restore.specs.TailTables.{EndsRestore}
use Rattle.dms_restore.specs.Views.{view_of}
use Rattle.dms_restore.specs.Logging as logs
use Rattle.dms_restore.specs.Logging.{LogView, telling_of, telling, state, waits, LogRuns, TrailKept, LeavesTrail, entries, points, durable, content}
use Rattle.dms_wal.specs.Lifting.{block_point, last_blocks}
use Rattle.dms_wal.specs.Marks.{IsDescription, IsMarkOf, StandsUnder}
use Rattle.dms_opening.specs.declared.opened.Opened.{Opened}
use Rattle.dms_opening.specs.Plans.{IsPlainFault, RefusesPlan}
use Rattle.dms_opening.specs.Laws.{LastIsDescribed}

-- Scanning refuses nothing in these files: their trail begins with file `first`, and each of its files has so many blocks.
pub record IsTrailFound (total first : ℕ) (files : Files) : Type 0 where
  pub places : List EntryPlace
  pub found : IsFound files first places
  pub tag : ℕ
  pub file : ℕ
  pub count : ℕ
  pub writes : IsWrittenUpTo total tag first file count files

-- Where these bytes are those of a description, there is a count for each of its structures, and no count of 0 stands behind these; else
-- there are all 200.
pub record NamesStructures (schema counts : List ℕ) : Type 0 where
  pub each : (d : Described) → IsWellFormed d → spelling d ≡ schema → length d.structures ≤ length counts
  pub none_behind : (d : Described) → IsWellFormed d → spelling d ≡ schema → length d.structures < length counts → 0 < slice_index_or counts (length counts - 1) 0
  pub all_left : ((d : Described) → IsWellFormed d → spelling d ≡ schema → ⊥) → length counts ≡ 200

-- Neither the trail nor the dump or a point of a restore is refused. The opening begins a restore by halt/load to the last point, or goes on with the
-- one that is pending, and these are the restore's point, the next number, the description at the point, and how many blocks each file has there.
pub record OpensAt (total first : ℕ) (files : Files) (point next : ℕ) (schema counts : List ℕ) : Type 0 where
  pub trail : IsTrailFound total first files
  pub choice : Choice
  pub chooses : Chooses (judge_files total first files HaltLoad) (history_of (trail_entries total first files)) HaltLoad [] choice
  pub point_is : choice.point ≡ point
  pub next_is : next_of (trail_entries total first files) ≡ next
  pub schema_is : schema_at (trail_entries total first files) point ≡ Some schema
  pub counts_are : (f : ℕ) → count_of counts f ≡ count_at chooses.restore.entries chooses.restore.point f
  pub named : NamesStructures schema counts

-- ---- what it leaves

-- the Begin of an opening, where no restore is pending
abbrev pub begin_where_none : Option Pending → ℕ → List Entry
begin_where_none None point = begin_restore point by_halt_load ∷ []
begin_where_none (Some p) point = []

-- what ends a restore: the whole Schema, and a Control with the counts
abbrev pub ending_entries : ℕ → ℕ → List ℕ → List ℕ → List Entry
ending_entries point next schema counts = schema_entries (bodies schema) ++ control_point point next (file_counts 30001 counts) ∷ []

-- what an opening seals: its Begin, and then what ends its restore
abbrev pub opening_entries : Option Pending → ℕ → ℕ → List ℕ → List ℕ → List Entry
opening_entries pending point next schema counts = begin_where_none pending point ++ ending_entries point next schema counts

-- The database that these files held runs. Exactly those entries were sealed behind its own, and nothing waits: they end with the Control of a
-- restore to the last point. Its points and its next number are the same, and all points are durable. The content is that of the last point,
-- each block of it stands in its file, and a stop now leaves what is read. The last live Schema is that of the description.
pub record RunsFrom (files : Files) (point next : ℕ) (schema counts : List ℕ) (v : LogView) : Type 0 where
  pub runs : LogRuns v
  pub nothing : waits v.end ≡ []
  pub entries_are : entries v ≡ trail_entries v.end.total v.first files ++ opening_entries (history_of (trail_entries v.end.total v.first files)).pending point next schema counts
  pub ended : EndsRestore (live_of (entries v)) point
  pub points_same : points v ≡ points_of (telling v) files
  pub all_durable : durable v ≡ length (points v)
  pub next_is : logs.next v ≡ next
  pub last : IsMarkOf (points v) point counts
  pub under : StandsUnder v schema
  pub content_is : content v ≡ last_blocks (λ f. []) (points v)
  pub written : AllWritten (telling v) (state v)
  pub only : Only v.files v.clock

-- A stop leaves files that hold a database with all points of these files and with the same next number, and no text but this one, where it
-- is told.
pub record Reopens (t : Telling) (files : Files) (said : Option (List ℕ)) (x : Left) : Type 0 where
  pub whole : IsWhole t x.files
  pub points_same : points_of t x.files ≡ points_of t files
  pub not_fallen : next_in t files ≤ next_in t x.files
  pub not_risen : next_in t x.files ≤ next_in t files
  pub text : (s : List ℕ) → said ≡ Some s → x.said ≡ s

module _ {S : Type 0} (g : Ghosts S) where
  -- the text so far, where the site tells it
  abbrev pub text_of : S → Option (List ℕ)
  text_of site = if g.tells_said then Some (g.said site) else None

  -- where these files held a database, what was opened runs from them
  abbrev pub RunsWhere : Files → Opened S → Type 0
  RunsWhere files o = IsWhole (telling (view_of g o.log)) files → RunsFrom files o.point o.next o.schema.items o.counts.items (view_of g o.log)

  -- there are files that held a database, from which what was opened runs
  abbrev pub OpenedRuns : Opened S → Type 0
  OpenedRuns o = (files : Files) × RunsFrom files o.point o.next o.schema.items o.counts.items (view_of g o.log)

  -- Where the files of then held a database, each stop since then left what it could leave then, or all their points.
  abbrev pub ReopensSince : S → S → Type 0
  ReopensSince a b = (total first : ℕ) → IsTrailFound total first (g.files a) → IsWhole (telling_of total first) (g.files a) → Runs (g.clock a) (g.clock b) (Reopens (telling_of total first) (g.files a) (text_of a))

-- Blocks tell exactly the points of files, all of them durable, the content of the last one, and the next number.
-- They weren't synced yet.
pub record TellsOpened (t : Telling) (files : Files) (next : ℕ) (h : Held) : Type 0 where
  pub points_are : h.points ≡ map block_point (points_of t files)
  pub all_durable : h.durable ≡ length h.points
  pub content_is : h.content ≡ h.mark
  pub next_is : h.next ≡ next
  pub no_sync : h.uses.syncs ≡ 0

-- ---- why it is refused

-- A trail was found, and so it is refused.
pub record RefusesTrail (files : Files) (fault : OpenFault) : Type 0 where
  pub total : ℕ
  pub first : ℕ
  pub trail : IsTrailFound total first files
  pub why : RefusesPlan total first files fault

-- the audit has no room up to file 9,999
abbrev pub IsFullFault : OpenFault → Type 0
IsFullFault fault = fault ≡ Audit (aud.Full 9999)

-- The first refusal of the trail, or of its points, the dump of the restore that is pending, and the description; a failure of the disk, want of memory and an audit without room say nothing
-- of the files.
abbrev pub RefusesFiles : Files → OpenFault → Type 0
RefusesFiles files fault = ((e : AudFault) × (fault ≡ Audit e) × Refuses files e) ⊎ (RefusesTrail files fault ⊎ IsFullFault fault)

-- At most 19 entries were sealed behind those that there were: a Begin, 17 parts of a Schema and a Control.
abbrev pub SealsFew : ℕ → ℕ → Files → Files → Type 0
SealsFew total first old new = length (trail_entries total first new) ≤ length (trail_entries total first old) + 19

module _ {S : Type 0} (g : Ghosts S) where
  -- What an opening does to the trail of the files of a site, whatever it answers: the trail is the old one and blocks behind it, each of which is in
  -- its grammar and holds an entry, now and at each stop. At most 19 entries were sealed, where the files held a database.
  pub record OpeningGrows (old new : S) : Type 0 where
    pub kept : (total first : ℕ) → IsTrailFound total first (g.files old) → TrailKept total first (g.files old) (g.files new)
    pub left : (total first : ℕ) → IsTrailFound total first (g.files old) → Steps (LeavesTrail total first) (g.clock old) (g.clock new)
    pub few : (total first : ℕ) → IsTrailFound total first (g.files old) → IsWhole (telling_of total first) (g.files old) → SealsFew total first (g.files old) (g.files new)

-- Why the audit has no room: each file of the trail of these files, up to file 9,999, is full now.
pub record HasFullTrail (files now : Files) : Type 0 where
  pub total : ℕ
  pub first : ℕ
  pub trail : IsTrailFound total first files
  pub full : (g : ℕ) → first ≤ g → g ≤ 19999 → is_full total (now g) ≡ true

-- Neither the trail of these files nor the dump or a point of a restore is refused, and the Schema at the point has from 1 to 65,535 bytes: so they are opened.
pub record CanOpen (files : Files) : Type 0 where
  pub total : ℕ
  pub first : ℕ
  pub point : ℕ
  pub next : ℕ
  pub schema : List ℕ
  pub counts : List ℕ
  pub opens : OpensAt total first files point next schema counts
  pub described : IsDescription schema

-- A call of the site failed, or the audit had no room: the opening may have begun to write.
abbrev pub MayHaveWritten : OpenFault → Type 0
MayHaveWritten fault = (fault ≡ Audit aud.Disk) ⊎ IsFullFault fault

-- These files hold a database, whose last point is live and described.
pub record IsOpenable (total first : ℕ) (files : Files) : Type 0 where
  pub trail : IsTrailFound total first files
  pub whole : IsWhole (telling_of total first) files
  pub described : LastIsDescribed (trail_entries total first files)

-- What has nothing to do with the files: a failed call, want of memory, an audit without room.
abbrev pub IsNoRefusal : OpenFault → Type 0
IsNoRefusal fault = IsPlainFault fault ⊎ IsFullFault fault
