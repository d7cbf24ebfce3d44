-- Calls that copy a dump beside a running database.
use Rattle.std.specs.Prelude.{ℕ, ◌<◌, ◌≡◌, ◌⊎◌, true, ⊤, IfErr, OnOk, IsTrue, List, length, slice_index}
use Rattle.std.specs.declared.result.Result.{Result}
use Rattle.dms_moments.specs.Moments.{Steps}
use Rattle.dms_site.specs.declared.site.Site.{Ghosts}
use Rattle.dms_site.specs.Files.{Left}
use Rattle.dms_block.specs.declared.block_fault.BlockFault.{BlockFault}
use Rattle.dms_block.specs.declared.block_fault.BlockFault.TheVariants.{Disk, Memory, Full, Damaged, Say}
use Rattle.dms_block.specs.Held.{HasCauses, MakesNoPoint, SameBlocks, Stays}
use Rattle.dms_dump.specs.Stops.{IsShut, KeepsGate}
use Rattle.dms_restore.specs.Views.{view_of}
use Rattle.dms_wal.specs.Controls.{KeepsFields, TellsSame}
use Rattle.dms_wal.specs.Database.{running_held}
use Rattle.dms_wal.specs.Growing.{GrowsBy, TrailGrows}
use Rattle.dms_wal.specs.declared.running.Running.{Running}
use Rattle.dms_online.specs.declared.dump_site.DumpSite.{DumpSite}

-- a call of the disk that failed, or a block within which its file ends
abbrev pub IsCopyFault : BlockFault → Type 0
IsCopyFault Disk = ⊤
IsCopyFault Memory = ⊥
IsCopyFault (Full n) = ⊥
IsCopyFault (Damaged f b) = ⊤
IsCopyFault Say = ⊥

-- A call beside the database: it uses nothing, logs nothing and makes no point. Where it goes well the database is usable, with the same blocks,
-- entries and points; where it fails it is broken, and the fault is counted.
pub record Beside {D : Type 0} (d : Ghosts D) {T : Type 0} (result : Result T BlockFault) (a b : Running D) : Type 0 where
  pub passes : MakesNoPoint (running_held d a) (running_held d b)
  pub stays : OnOk result (Stays (running_held d a) (running_held d b))
  pub unchanged : OnOk result (SameBlocks (running_held d a) (running_held d b))
  pub tells : OnOk result (IsTrue d.tells → TellsSame (view_of d a.log) (view_of d b.log))
  pub uses : (running_held d b).uses ≡ (running_held d a).uses
  pub only : IfErr result IsCopyFault
  pub causes : HasCauses result (running_held d a) (running_held d b)
  pub broken : IfErr result (λ e. b.broken ≡ true)
  pub kept : KeepsFields a b
  pub grown : TrailGrows d 0 a b
  pub grows : GrowsBy d a b

-- the file has a gate, which is shut
pub record HasShutGate (file : List ℕ) : Type 0 where
  pub some : 0 < length file
  pub shut : slice_index file 0 ≡ 0

-- a stop leaves the gate of this file as it was
abbrev pub LeavesGate : ℕ → Left → Left → Type 0
LeavesGate f old new = KeepsGate (old.files f) (new.files f)

-- The same site, and the file of the dump is the same; at no moment is its gate changed.
pub record SameDump {S : Type 0} (g : Ghosts S) (a b : DumpSite S) : Type 0 where
  pub same : g.same_site a.site b.site
  pub file : b.file ≡ a.file
  pub gate : IsTrue g.tells → Steps (LeavesGate a.file) (g.clock a.site) (g.clock b.site)

-- a stop leaves this file as it was, or shut
abbrev pub AsWasOrShut : ℕ → Left → Left → Type 0
AsWasOrShut f old new = (new.files f ≡ old.files f) ⊎ IsShut (new.files f)
