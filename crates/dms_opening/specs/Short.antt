-- Blocks that an opening can't have.
use Rattle.std.specs.Prelude.{ℕ, ◌+◌, ◌<◌, ◌≤◌, ◌≡◌, ◌==◌, ◌⊎◌, ◌&&◌, ◌||◌, nat_le, nat_lt, Bool, true, false, List, length, Option, Some, None}
use Rattle.std.specs.List.{list_any}
use Rattle.dms_site.specs.Files.{Files, stored_of}
use Rattle.dms_restore.specs.Counts.{count_of}
use Rattle.dms_restore.specs.declared.told.Told.{Told}
use Rattle.dms_restore.specs.declared.run.Run.{Run}
use Rattle.dms_restore.specs.declared.restore_table.RestoreTable.{RestoreTable}
use Rattle.dms_restore.specs.Logging.{telling_of}
use Rattle.dms_running.specs.Standing.{IsWhole}
use Rattle.dms_opening.specs.declared.plan.OpeningPlan.{OpeningPlan}
use Rattle.dms_opening.specs.declared.short.ShortBlock.{ShortBlock}
use Rattle.dms_opening.specs.Openings.{IsTrailFound}
use Rattle.dms_opening.specs.Plans.{Plans}

-- whether the block is told, or in a run
abbrev pub is_told : ℕ → ℕ → Told → Bool
is_told f b t = (t.file == f) && (t.block == b)

abbrev pub is_in_run : ℕ → ℕ → Run → Bool
is_in_run f b r = (r.file == f) && (nat_le r.block b && nat_lt b (r.block + r.blocks))

-- whether a restore writes the block
abbrev pub is_written : RestoreTable → ℕ → ℕ → Bool
is_written table f b = list_any (λ (t : Told). is_told f b t) table.told.items || list_any (λ (r : Run). is_in_run f b r) table.runs.items

-- The number is the first one behind those from here on that a test holds of one behind another, as far as it went: it went on wherever the test
-- holds here.
pub record GoesOn (test : ℕ → Bool) (here to : ℕ) : Type 0 where
  pub from : here ≤ to
  pub each : (b : ℕ) → here ≤ b → b < to → test b ≡ true
  pub ends : to ≡ here → test here ≡ false

-- A block that the restore of an opening doesn't write, and that its structure file doesn't hold whole.
pub record IsLacking (files : Files) (table : RestoreTable) (f b : ℕ) : Type 0 where
  pub unwritten : is_written table f b ≡ false
  pub short : length (stored_of files f b) < 1024

-- the first such block of a file of n blocks
abbrev pub FindsIn : Files → RestoreTable → ℕ → ℕ → Option ℕ → Type 0
FindsIn files table f n None = (b : ℕ) → b < n → IsLacking files table f b → ⊥
FindsIn files table f n (Some b) = (b < n) × IsLacking files table f b × ((c : ℕ) → c < b → IsLacking files table f c → ⊥)

-- so is one below these counts
abbrev pub IsShort : Files → List ℕ → RestoreTable → ℕ → ℕ → Type 0
IsShort files counts table f b = (b < count_of counts f) × IsLacking files table f b

-- none is
abbrev pub NoneShort : Files → List ℕ → RestoreTable → Type 0
NoneShort files counts table = (f b : ℕ) → IsShort files counts table f b → ⊥

-- the block stands before another one: in a file before, or before it in the same
abbrev pub ComesBefore : ℕ → ℕ → ℕ → ℕ → Type 0
ComesBefore g c f b = (g < f) ⊎ ((g ≡ f) × (c < b))

-- block b of file f is the first one
pub record IsFirstShort (files : Files) (counts : List ℕ) (table : RestoreTable) (f b : ℕ) : Type 0 where
  pub is : IsShort files counts table f b
  pub first : (g c : ℕ) → ComesBefore g c f b → IsShort files counts table g c → ⊥

abbrev pub Finds : Files → List ℕ → RestoreTable → Option ShortBlock → Type 0
Finds files counts table None = NoneShort files counts table
Finds files counts table (Some s) = IsFirstShort files counts table s.file s.block

-- Nothing is refused of an opening of these files, and this is what it does.
pub record IsPlannable (files : Files) : Type 0 where
  pub total : ℕ
  pub first : ℕ
  pub trail : IsTrailFound total first files
  pub plan : OpeningPlan
  pub plans : Plans total first files plan

-- whatever an opening of these files does, no block is short of it
abbrev pub HasNoShort : Files → Type 0
HasNoShort files = (p : IsPlannable files) → NoneShort files p.plan.counts.items p.plan.table

-- nothing is refused of it, and this is the first block that is short of it
abbrev pub IsShortOf : Files → ℕ → ℕ → Type 0
IsShortOf files f b = (p : IsPlannable files) × IsFirstShort files p.plan.counts.items p.plan.table f b

-- Law: files that hold a database have each block whole that an opening takes from them.
abbrev pub WholeHasNoShort : Type 0
WholeHasNoShort = (total first : ℕ) (files : Files) → IsTrailFound total first files → IsWhole (telling_of total first) files → HasNoShort files
