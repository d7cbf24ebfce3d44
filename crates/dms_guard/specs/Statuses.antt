-- The statuses of an opening.
use Rattle.std.specs.Prelude.{◌≤◌, ⊤}
use Rattle.dms_status.specs.declared.status.NeedFault.{NeedFault}
use Rattle.dms_status.specs.declared.status.NeedFault.TheVariants.{NoDescription, AuditMissing, AuditUnsealed, AuditForeign, NoSuchPoint, Voided, DumpMissing, DumpUnsealed, DumpForeign, DumpLater, NoSuchRow}
use Rattle.dms_status.specs.declared.status.Status.{Status}
use Rattle.dms_status.specs.declared.status.Status.TheVariants.{Ok, BadWords, SchemaRefused, NoDatabase, Needed, InputFault, Memory, Limit, Damaged, SayFault, DiskFault, Exists, BadStatement, Reorganization, BadStream, Diverged, Flaw}

-- what an opening needs and doesn't find
abbrev pub IsOfOpening : NeedFault → Type 0
IsOfOpening NoDescription = ⊥
IsOfOpening (AuditMissing k) = ⊤
IsOfOpening (AuditUnsealed k) = ⊤
IsOfOpening (AuditForeign k) = ⊤
IsOfOpening (NoSuchPoint n) = ⊤
IsOfOpening (Voided n) = ⊤
IsOfOpening (DumpMissing d) = ⊤
IsOfOpening (DumpUnsealed d) = ⊤
IsOfOpening (DumpForeign d) = ⊤
IsOfOpening (DumpLater d n) = ⊤
IsOfOpening (NoSuchRow name r) = ⊥

-- the statuses with which an opening alone is refused: no database, a need, or a damaged block that is none of a structure file
abbrev pub IsRefusal : Status → Type 0
IsRefusal Ok = ⊥
IsRefusal BadWords = ⊥
IsRefusal (SchemaRefused f) = ⊥
IsRefusal NoDatabase = ⊤
IsRefusal (Needed n) = ⊤
IsRefusal InputFault = ⊥
IsRefusal Memory = ⊥
IsRefusal (Limit k) = ⊥
IsRefusal (Damaged f b) = f ≤ 30000
IsRefusal SayFault = ⊥
IsRefusal DiskFault = ⊥
IsRefusal Exists = ⊥
IsRefusal (BadStatement p) = ⊥
IsRefusal (Reorganization why) = ⊥
IsRefusal (BadStream place) = ⊥
IsRefusal (Diverged file block) = ⊥
IsRefusal (Flaw flaw) = ⊥
