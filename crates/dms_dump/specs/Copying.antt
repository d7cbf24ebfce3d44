-- Blocks that are copied to the end of a file.
use Rattle.std.specs.Prelude.{ℕ, ◌+◌, ◌<◌, ◌≤◌, ◌≡◌, Bool, List, ◌++◌, length, IsTrue}
use Rattle.dms_base.specs.Causes.{Rose}
use Rattle.dms_site.specs.Files.{Files, stored_of}
use Rattle.dms_history.specs.Entries.{counts_in}
use Rattle.dms_history.specs.declared.event.FileCount.{FileCount}
use Rattle.dms_dump.specs.declared.fault.DumpFault.{DumpFault}
use Rattle.dms_dump.specs.declared.fault.DumpFault.TheVariants.{Damaged}

-- where a file had so many bytes, these stand behind them now
abbrev pub CopiesBehind : ℕ → ℕ → List ℕ → Files → Files → Type 0
CopiesBehind f at bytes old new = length (old f) ≡ at → new f ≡ old f ++ bytes

-- fewer than 1,024 bytes of a block stand in its file
abbrev pub IsShortOf : Files → ℕ → ℕ → Type 0
IsShortOf files f b = length (stored_of files f b) < 1024

-- the fault names a block of the file, of the first so many, and where files are told it is short
abbrev pub IsShortAmong : Bool → Files → ℕ → ℕ → DumpFault → Type 0
IsShortAmong tells files f blocks fault = (b : ℕ) × (b < blocks) × (fault ≡ Damaged f b) × (IsTrue tells → IsShortOf files f b)

-- so it is of one of these files
abbrev pub IsShortIn : Bool → Files → List FileCount → DumpFault → Type 0
IsShortIn tells files counts fault = (f : ℕ) × (b : ℕ) × (b < counts_in counts f) × (fault ≡ Damaged f b) × (IsTrue tells → IsShortOf files f b)

-- A count of failures rose by one where the call ended so, and else stayed. A count at its type's end stands for one that rose.
pub record CountsAt (P : Type 0) (before now : ℕ) : Type 0 where
  pub later : before ≤ now
  pub failed : P → Rose before now
  pub once : now ≤ before + 1
  pub clean : (P → ⊥) → now ≡ before
