-- The statuses of `utility`.
use Rattle.std.specs.Prelude.{⊤}
use Rattle.dms_status.specs.declared.status.NeedFault.{NeedFault}
use Rattle.dms_status.specs.declared.status.NeedFault.TheVariants.{NoDescription, AuditMissing, AuditUnsealed, AuditForeign, NoSuchPoint, Voided, DumpMissing, DumpUnsealed, DumpForeign, DumpLater, NoSuchRow}
use Rattle.dms_status.specs.declared.status.Status.{Status}
use Rattle.dms_status.specs.declared.status.Status.TheVariants.{Ok, BadWords, SchemaRefused, NoDatabase, Needed, InputFault, Memory, Limit, Damaged, SayFault, DiskFault, Exists, BadStatement, Reorganization, BadStream, Diverged, Flaw}
use Rattle.dms_dumping.specs.Statuses.{IsOfAudit}

-- what a statement needs and doesn't find: what an opening needs, or a row
abbrev pub IsOfStatement : NeedFault → Type 0
IsOfStatement NoDescription = ⊥
IsOfStatement (AuditMissing k) = ⊤
IsOfStatement (AuditUnsealed k) = ⊤
IsOfStatement (AuditForeign k) = ⊤
IsOfStatement (NoSuchPoint n) = ⊤
IsOfStatement (Voided n) = ⊤
IsOfStatement (DumpMissing d) = ⊤
IsOfStatement (DumpUnsealed d) = ⊤
IsOfStatement (DumpForeign d) = ⊤
IsOfStatement (DumpLater d n) = ⊤
IsOfStatement (NoSuchRow name r) = ⊤

-- the statuses of `utility`
abbrev pub IsOfUtility : Status → Type 0
IsOfUtility Ok = ⊤
IsOfUtility BadWords = ⊥
IsOfUtility (SchemaRefused f) = ⊥
IsOfUtility NoDatabase = ⊤
IsOfUtility (Needed n) = IsOfStatement n
IsOfUtility InputFault = ⊤
IsOfUtility Memory = ⊤
IsOfUtility (Limit k) = IsOfAudit k
IsOfUtility (Damaged f b) = ⊤
IsOfUtility SayFault = ⊤
IsOfUtility DiskFault = ⊤
IsOfUtility Exists = ⊤
IsOfUtility (BadStatement p) = ⊤
IsOfUtility (Reorganization why) = ⊥
IsOfUtility (BadStream place) = ⊥
IsOfUtility (Diverged file block) = ⊥
IsOfUtility (Flaw flaw) = ⊥
