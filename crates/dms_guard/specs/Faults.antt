-- The status that a fault of an opening ends with.
use Rattle.std.specs.Prelude.{ℕ, ◌+◌, nat_lt, nat_le, ◌&&◌, Bool, if◌then◌else◌}
use Rattle.dms_audfile.specs.declared.fault.AudFault.TheVariants as aud
use Rattle.dms_opening.specs.declared.choosing.OpenFault.{OpenFault}
use Rattle.dms_opening.specs.declared.choosing.OpenFault.TheVariants.{Audit, NoSuchPoint, Voided, DumpMissing, DumpUnsealed, DumpDamaged, DumpForeign, DumpLater}
use Rattle.dms_opening.specs.declared.whole.OpenRefusal.{OpenRefusal}
use Rattle.dms_opening.specs.declared.whole.OpenRefusal.TheVariants.{Fault, Short}
use Rattle.dms_status.specs.declared.status.LimitKind.TheVariants as limit
use Rattle.dms_status.specs.declared.status.NeedFault.TheVariants as need
use Rattle.dms_status.specs.declared.status.Status.{Status}
use Rattle.dms_status.specs.declared.status.Status.TheVariants.{NoDatabase, Needed, DiskFault, Memory, Limit, Damaged}

-- one of the 200 structure files that a database may have
abbrev pub is_structure_file : ℕ → Bool
is_structure_file f = nat_lt 30000 f && nat_le f 30200

-- of a damaged block that a script finds: of a structure file, and of no other
abbrev pub damaged_status : ℕ → ℕ → Status
damaged_status f b = if is_structure_file f then Damaged f b else Memory

-- of one that an opening finds: of a file that is no structure file
abbrev pub audit_damaged_status : ℕ → ℕ → Status
audit_damaged_status f b = if nat_le f 30000 then Damaged f b else Memory

-- of a fault of an opening
abbrev pub open_status : OpenFault → Status
open_status (Audit aud.NoDatabase) = NoDatabase
open_status (Audit aud.Disk) = DiskFault
open_status (Audit (aud.Full k)) = Limit (limit.AuditFile k)
open_status (Audit (aud.Missing k)) = Needed (need.AuditMissing k)
open_status (Audit (aud.Unsealed k)) = Needed (need.AuditUnsealed k)
open_status (Audit (aud.Foreign k)) = Needed (need.AuditForeign k)
open_status (Audit (aud.Damaged f b)) = audit_damaged_status f b
open_status (Audit aud.Memory) = Memory
open_status (NoSuchPoint n) = Needed (need.NoSuchPoint n)
open_status (Voided n) = Needed (need.Voided n)
open_status (DumpMissing d) = Needed (need.DumpMissing d)
open_status (DumpUnsealed d) = Needed (need.DumpUnsealed d)
open_status (DumpDamaged d) = audit_damaged_status (20000 + d) 0
open_status (DumpForeign d) = Needed (need.DumpForeign d)
open_status (DumpLater d n) = Needed (need.DumpLater d n)

-- of what keeps a database from being opened
abbrev pub refusal_status : OpenRefusal → Status
refusal_status (Fault fault) = open_status fault
refusal_status (Short f b) = damaged_status f b
