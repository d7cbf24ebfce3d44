-- A block at the point of a restore, as its plan gives it.
use Rattle.std.specs.Prelude.{ℕ, ◌<◌, ◌≡◌, ◌++◌, if◌then◌else◌, List, [], length, Option, Some, None}
use Rattle.dms_site.specs.Files.{Files, stored_of}
use Rattle.dms_history.specs.Events.{BlockBytes, How, block_in}
use Rattle.dms_history.specs.Here.{outcome}
use Rattle.dms_history.specs.History.{Pending}
use Rattle.dms_history.specs.Pick.{count_at}
use Rattle.dms_history.specs.Restores.{may_hold_anything}
use Rattle.dms_history.specs.Told.{told_block}
use Rattle.dms_restore.specs.Dumped.{dumps_of}
use Rattle.dms_restore.specs.Table.{IsPlan, all_in, last_of}
use Rattle.dms_restore.specs.declared.restore_table.RestoreTable.{RestoreTable}

-- what is told of a block, else nothing where it goes by a dump, else what is stored
abbrev pub given : How → Files → ℕ → ℕ → Option BlockBytes → BlockBytes
given how files f b (Some x) = x
given how files f b None = if may_hold_anything how f b then [] else stored_of files f b

-- a block at the point, and what the plan and the files give
abbrev pub block_of : Pending → Files → ℕ → ℕ → BlockBytes
block_of p files f b = block_in (outcome p.how (dumps_of files) p.entries p.point (stored_of files)) f b

abbrev pub given_by : Pending → Files → RestoreTable → ℕ → ℕ → BlockBytes
given_by p files t f b = given p.how files f b (last_of files f b (all_in t.runs.items ++ t.told.items))

-- One of them is whole exactly where the other one is, and then they are one.
pub record GivesBlock (block read : BlockBytes) : Type 0 where
  pub whole : length block ≡ 1024 → read ≡ block
  pub only : length read ≡ 1024 → block ≡ read

-- what the audit tells of a block is whole
abbrev pub TellsWhole : Pending → Type 0
TellsWhole p = (f b : ℕ) (x : BlockBytes) → told_block p.entries p.point f b ≡ Some x → length x ≡ 1024

abbrev pub PlanGives : Type 0
PlanGives = (p : Pending) (files : Files) (t : RestoreTable) → IsPlan p files t → TellsWhole p → (f b : ℕ) → b < count_at p.entries p.point f → GivesBlock (block_of p files f b) (given_by p files t f b)
