-- What a restore by a dump writes: runs of the dump's blocks, and a table of what the audit tells behind its point.
use Rattle.std.specs.Prelude.{ℕ, ◌+◌, ◌*◌, ◌<◌, ◌≤◌, ◌≡◌, if◌then◌else◌, Bool, true, false, List, length, Option, Some, None}
use Rattle.dms_site.specs.Files.{Files}
use Rattle.dms_history.specs.Events.{BlockBytes, How, rebuild, reconstruct, Event, block_in}
use Rattle.dms_history.specs.Images.{last_after}
use Rattle.dms_history.specs.Pick.{Dump, Dumps, count_at, between}
use Rattle.dms_history.specs.Restores.{may_hold_anything}
use Rattle.dms_history.specs.Told.{told_block}
use Rattle.dms_history.specs.Entries.{counts_in}
use Rattle.dms_dump.specs.Head.{Head, head_size, head_in}
use Rattle.dms_dump.specs.Body.{blocks_before}
use Rattle.dms_restore.specs.Dumped.{dumps_of}
use Rattle.dms_restore.specs.declared.run.Run.{Run}
use Rattle.dms_restore.specs.declared.told.Told.{Told}
use Rattle.dms_restore.specs.Table.{bytes_at, told_at, AreFree, AreWhole, last_of, all_in, IsAmong, IsPlanOf}

-- What the table tells of a block: where it goes by the dump, the last after-image between the dump's point and the restore's; else what the
-- audit tells.
abbrev pub table_tells : How → Dump → List Event → ℕ → ℕ → ℕ → Option BlockBytes
table_tells how dump live m f b = if may_hold_anything how f b then last_after f b (between dump.point m live) else told_block live m f b

-- The runs are whole blocks that go by the dump, and among them are all that it has and the point has. The table tells the rest.
pub record PlansByDump (how : How) (dump : Dump) (live : List Event) (m : ℕ) (files : Files) (runs : List Run) (table : List Told) : Type 0 where
  pub runs_by : AreFree (λ f b. may_hold_anything how f b ≡ false) (all_in runs)
  pub runs_whole : AreWhole files (all_in runs)
  pub runs_all : (f b : ℕ) → b < count_at live m f → may_hold_anything how f b ≡ true → b < length (dump.blocks f) → last_of files f b (all_in runs) ≡ Some (block_in dump.blocks f b)
  pub runs_only : (f b : ℕ) (x : BlockBytes) → last_of files f b (all_in runs) ≡ Some x → (may_hold_anything how f b ≡ true) × (block_in dump.blocks f b ≡ x)
  pub whole : AreWhole files table
  pub tells : (f b : ℕ) → last_of files f b table ≡ table_tells how dump live m f b
  pub among : (f b : ℕ) → IsAmong f b table → last_of files f b table ≡ None → ⊥

-- Law: so they are what the restore writes.
abbrev pub RebuildPlans : Type 0
RebuildPlans = (d : ℕ) (dumps : Dumps) (live : List Event) (m : ℕ) (files : Files) (runs : List Run) (table : List Told) → PlansByDump (rebuild d) (dumps d) live m files runs table
    → IsPlanOf (rebuild d) dumps live m files runs table

abbrev pub ReconstructPlans : Type 0
ReconstructPlans = (d : ℕ) (named : ℕ → ℕ → Bool) (dumps : Dumps) (live : List Event) (m : ℕ) (files : Files) (runs : List Run) (table : List Told)
    → PlansByDump (reconstruct d named) (dumps d) live m files runs table → IsPlanOf (reconstruct d named) dumps live m files runs table

-- the first n blocks of a structure file in the file of dump d, where that has this head
abbrev pub run_of : Head → ℕ → ℕ → ℕ → Run
run_of h d f n = record { file = f; block = 0; blocks = n; dump = 20000 + d; at = 1 + head_size h + 1024 * blocks_before f h.counts }

-- Law: what stands there are the blocks of the dump.
abbrev pub RunsOfDumps : Type 0
RunsOfDumps = (h : Head) (d f n i : ℕ) (files : Files) → 1 ≤ d → d ≤ 9999 → head_in (files (20000 + d)) ≡ Some h → i < n → n ≤ counts_in h.counts f
    → bytes_at files (told_at (run_of h d f n) i) ≡ block_in (dumps_of files d).blocks f i
