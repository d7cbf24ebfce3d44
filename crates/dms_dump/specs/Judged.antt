-- Why the file of a dump can't be read.
use Rattle.std.specs.Prelude.{ℕ, ◌+◌, ◌==◌, ◌≡◌, if◌then◌else◌, List, [], ◌∷◌, Option, Some, None}
use Rattle.dms_dump.specs.Head.{Head, head_in}
use Rattle.dms_dump.specs.declared.fault.DumpFault.{DumpFault}
use Rattle.dms_dump.specs.declared.fault.DumpFault.TheVariants.{Disk, Memory, Exists, Missing, Unsealed, Damaged}

-- missing: the file isn't present. unsealed: its gate isn't 1. damaged: the rest isn't in its grammar.
pub data DumpRead : Type 0 where
  missing : DumpRead
  unsealed : DumpRead
  damaged : DumpRead
  sealed : Head → DumpRead

abbrev pub read_head : Option Head → DumpRead
read_head None = damaged
read_head (Some h) = sealed h

-- what the file of a dump is found to be, in this order
unfoldable pub dump_read : List ℕ → DumpRead
dump_read [] = missing
dump_read (gate ∷ rest) = if gate == 1 then read_head (head_in (gate ∷ rest)) else unsealed

-- the fault of dump d by which its file is refused; a failed call and want of memory say nothing
abbrev pub RefusesDump : ℕ → DumpRead → DumpFault → Type 0
RefusesDump d read Disk = Unit {0}
RefusesDump d read Memory = Unit {0}
RefusesDump d read (Exists e) = ⊥
RefusesDump d read (Missing e) = (e ≡ d) × (read ≡ missing)
RefusesDump d read (Unsealed e) = (e ≡ d) × (read ≡ unsealed)
RefusesDump d read (Damaged f b) = (f ≡ 20000 + d) × (b ≡ 0) × (read ≡ damaged)
