-- What holds where the audit had no room, of one answer and another.
use Rattle.std.proofs.Common.{ℕ}
use Rattle.std.specs.declared.result.Result.{Result}
use Rattle.std.specs.declared.result.Result.TheVariants.{Ok, Err}
use Rattle.dms_block.specs.declared.block_fault.BlockFault.{BlockFault}
use Rattle.dms_block.specs.declared.block_fault.BlockFault.TheVariants.{Disk, Memory, Full, Damaged, Say}
use Rattle.dms_block.specs.Faults.{IfFull, NotFull}

-- a call that had room
pub full_none : {T : Type 0} (r : Result T BlockFault) (P : ℕ → Type 0) → NotFull r → IfFull r P
full_none (Ok x) P room = tt
full_none (Err Disk) P room = tt
full_none (Err Memory) P room = tt
full_none (Err (Full f)) P room = absurd room
full_none (Err (Damaged f b)) P room = tt
full_none (Err Say) P room = tt

-- the same fault, handed on
pub full_err : (T U : Type 0) (e : BlockFault) (P : ℕ → Type 0) → IfFull {T = T} (Err e) P → IfFull {T = U} (Err e) P
full_err T U Disk P is = tt
full_err T U Memory P is = tt
full_err T U (Full f) P is = is
full_err T U (Damaged f b) P is = tt
full_err T U Say P is = tt

pub full_weaker : {T : Type 0} (r : Result T BlockFault) (P Q : ℕ → Type 0) → ((f : ℕ) → P f → Q f) → IfFull r P → IfFull r Q
full_weaker (Ok x) P Q on is = tt
full_weaker (Err Disk) P Q on is = tt
full_weaker (Err Memory) P Q on is = tt
full_weaker (Err (Full f)) P Q on is = on f is
full_weaker (Err (Damaged f b)) P Q on is = tt
full_weaker (Err Say) P Q on is = tt

pub full_is : {T : Type 0} (r : Result T BlockFault) {P : ℕ → Type 0} → ((f : ℕ) → P f) → IfFull r P
full_is (Ok x) p = tt
full_is (Err Disk) p = tt
full_is (Err Memory) p = tt
full_is (Err (Full f)) p = p f
full_is (Err (Damaged f b)) p = tt
full_is (Err Say) p = tt
