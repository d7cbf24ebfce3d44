-- The status that each fault ends with.
use Rattle.std.specs.Prelude.{ℕ, ◌≡◌, ◌⊎◌}
use Rattle.dms_block.specs.declared.block_fault.BlockFault.{BlockFault}
use Rattle.dms_block.specs.declared.block_fault.BlockFault.TheVariants as block
use Rattle.dms_guard.specs.Faults.{damaged_status}
use Rattle.dms_runner.specs.declared.run.RunFault.{RunFault}
use Rattle.dms_runner.specs.declared.run.RunFault.TheVariants as run
use Rattle.dms_status.specs.declared.status.LimitKind.TheVariants as limit
use Rattle.dms_status.specs.declared.status.Status.{Status}
use Rattle.dms_status.specs.declared.status.Status.TheVariants.{DiskFault, InputFault, Memory, Limit, SayFault}

-- of a fault of blocks
abbrev pub block_status : BlockFault → Status
block_status block.Disk = DiskFault
block_status block.Memory = Memory
block_status (block.Full f) = Limit (limit.AuditFile f)
block_status (block.Damaged f b) = damaged_status f b
block_status block.Say = SayFault

-- of a fault of a run
abbrev pub run_status : RunFault → Status
run_status (run.Block fault) = block_status fault
run_status run.Input = InputFault
run_status run.Lines = Limit limit.Lines
run_status run.Bytes = Limit limit.Bytes
run_status run.Held = Limit limit.Held
run_status run.Memory = Memory

-- An audit that a script finds full ends with the last file that its limit allows, or with the last of all, up to which a way back goes.
abbrev pub MayBeFull : ℕ → ℕ → Type 0
MayBeFull last f = (f ≡ last) ⊎ (f ≡ 9999)

-- A full audit is one at such a file; where another file were named, that counts as want of memory.
abbrev pub IsWithin : ℕ → RunFault → RunFault → Type 0
IsWithin last fault told =
    ((told ≡ fault) × ((f : ℕ) → fault ≡ run.Block (block.Full f) → MayBeFull last f)) ⊎ ((told ≡ run.Memory) × ((f : ℕ) × (fault ≡ run.Block (block.Full f)) × (MayBeFull last f → ⊥)))
