-- What holds after a call on blocks, by its fault.
use Rattle.std.specs.Prelude.{ℕ, ⊤}
use Rattle.std.specs.declared.result.Result.{Result}
use Rattle.std.specs.declared.result.Result.TheVariants.{Ok, Err}
use Rattle.dms_block.specs.declared.block_fault.BlockFault.{BlockFault}
use Rattle.dms_block.specs.declared.block_fault.BlockFault.TheVariants.{Disk, Memory, Full, Damaged, Say}

-- it holds after each answer but a fault of the outside
abbrev pub Unbroken : {T : Type 0} → Result T BlockFault → Type 0 → Type 0
Unbroken (Ok x) P = P
Unbroken (Err Memory) P = P
Unbroken (Err Disk) P = ⊤
Unbroken (Err (Full f)) P = ⊤
Unbroken (Err (Damaged f b)) P = ⊤
Unbroken (Err Say) P = ⊤

-- no block was found damaged
abbrev pub Undamaged : {T : Type 0} → Result T BlockFault → Type 0
Undamaged (Ok x) = ⊤
Undamaged (Err Disk) = ⊤
Undamaged (Err Memory) = ⊤
Undamaged (Err (Full f)) = ⊤
Undamaged (Err (Damaged f b)) = ⊥
Undamaged (Err Say) = ⊤

-- the audit had room
abbrev pub NotFull : {T : Type 0} → Result T BlockFault → Type 0
NotFull (Ok x) = ⊤
NotFull (Err Disk) = ⊤
NotFull (Err Memory) = ⊤
NotFull (Err (Full f)) = ⊥
NotFull (Err (Damaged f b)) = ⊤
NotFull (Err Say) = ⊤

-- this holds of the file that the audit could not go behind, where it had no room
abbrev pub IfFull : {T : Type 0} → Result T BlockFault → (ℕ → Type 0) → Type 0
IfFull (Ok x) P = ⊤
IfFull (Err Disk) P = ⊤
IfFull (Err Memory) P = ⊤
IfFull (Err (Full f)) P = P f
IfFull (Err (Damaged f b)) P = ⊤
IfFull (Err Say) P = ⊤
