-- A database over which a restore is begun, and how one ends.
use Rattle.std.specs.Prelude.{ℕ, ◌<◌, ◌≡◌, List, [], ◌∷◌, ◌++◌, Some}
use Rattle.dms_moments.specs.Moments.{Clock, Now}
use Rattle.dms_site.specs.Files.{Left, stored_of}
use Rattle.dms_running.specs.FromDumps.{DumpsInOrder}
use Rattle.dms_history.specs.Events.{Stored, AllBlocks, How, halt_load, back_out, roll_back, rebuild, reconstruct}
use Rattle.dms_history.specs.Places.{IsLive}
use Rattle.dms_history.specs.History.{Pending, last_point}
use Rattle.dms_history.specs.Pick.{count_at, blocks_at}
use Rattle.dms_history.specs.Here.{here, outcome}
use Rattle.dms_history.specs.Entries.{Entry, control_point}
use Rattle.dms_history.specs.Schemas.{schema_entries}
use Rattle.dms_history.specs.declared.event.FileCount.{FileCount}
use Rattle.dms_history.specs.EntryEvents.{history_of, live_of}
use Rattle.dms_running.specs.Telling.{Telling}
use Rattle.dms_running.specs.Standing.{Stands}
use Rattle.dms_running.specs.Points.{points_of, next_in}
use Rattle.dms_running.specs.Sealing.{Settled}
use Rattle.dms_running.specs.Running.{State, entries_now, LeavesPoints}

-- a restore that takes no block from a dump
abbrev pub ByAudit : How → Type 0
ByAudit halt_load = Unit {0}
ByAudit back_out = Unit {0}
ByAudit roll_back = Unit {0}
ByAudit (rebuild d) = ⊥
ByAudit (reconstruct d named) = ⊥

-- No entry waits, and in each image that a stop leaves the Begin of this restore is sealed and pending, scanning finds the
-- entries, and the database stands over one base.
pub record IsBegun (t : Telling) (p : Pending) (s : State) : Type 0 where
  pub base : AllBlocks
  pub nothing : s.waiting ≡ []
  pub settled : Settled t s.files s.clock
  pub found : (x : Left) → Now s.clock x → t.found x.files
  pub pending : (history_of (t.entries s.files)).pending ≡ Some p
  -- what the restore is to leave is the same by the dumps that each stop leaves, and its dump is in order
  pub outcome_stays : (x : Left) (st : Stored) → Now s.clock x → outcome p.how (t.dumps x.files) p.entries p.point st ≡ outcome p.how (t.dumps s.files) p.entries p.point st
  pub order : (x : Left) → Now s.clock x → DumpsInOrder (t.dump_found x.files) (t.dumps x.files) (Some p)
  pub each : (x : Left) → Now s.clock x → Stands t.first (t.entries s.files) (t.dumps x.files) base (stored_of x.files)

-- a stop leaves all points that these files hold
abbrev pub LeavesAll : Telling → State → Clock Left → Type 0
LeavesAll t s later = LeavesPoints t (points_of t s.files) (next_in t s.files) s later

-- each block that the point has stands as it counts
abbrev pub IsRestored : Telling → Pending → State → Type 0
IsRestored t p s = (f b : ℕ) → b < count_at p.entries p.point f → stored_of s.files f b ≡ here (t.dumps s.files) (history_of (t.entries s.files)) (stored_of s.files) f b

-- the content that a pending restore is to leave, whatever it has written so far
abbrev pub outcome_now : Telling → Pending → State → AllBlocks
outcome_now t p s = outcome p.how (t.dumps s.files) p.entries p.point (stored_of s.files)

-- m is the last point, and it is live
pub record IsLast (t : Telling) (s : State) (m : ℕ) : Type 0 where
  pub last : last_point (history_of (entries_now t s)) ≡ Some m
  pub lives : IsLive (live_of (entries_now t s)) m

-- the restore that a Begin to point m with all these entries before it makes pending
abbrev pub restore_to : Telling → State → ℕ → How → Pending
restore_to t s m how = record { entries = live_of (entries_now t s); point = m; how = how }

-- the content at a point
abbrev pub content_at_point : Telling → State → ℕ → AllBlocks
content_at_point t s m = blocks_at (live_of (entries_now t s)) (stored_of s.files) m

-- These entries are a whole Schema and, directly behind it, a Control of that point with the next number and these counts.
pub record IsSchemaControl (t : Telling) (s : State) (point : ℕ) (counts : List FileCount) (es : List Entry) : Type 0 where
  pub first : List ℕ
  pub rest : List (List ℕ)
  pub is : es ≡ schema_entries (first ∷ rest) ++ control_point point (next_in t s.files) counts ∷ []
