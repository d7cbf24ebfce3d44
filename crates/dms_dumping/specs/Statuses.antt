-- The statuses of a dump, by where they come from.
use Rattle.std.specs.Prelude.{◌≤◌, ◌≡◌, ⊤}
use Rattle.dms_status.specs.declared.status.LimitKind.{LimitKind}
use Rattle.dms_status.specs.declared.status.LimitKind.TheVariants.{AuditFile, Lines, Bytes, Held}
use Rattle.dms_status.specs.declared.status.Status.{Status}
use Rattle.dms_status.specs.declared.status.Status.TheVariants.{Ok, BadWords, SchemaRefused, NoDatabase, Needed, InputFault, Memory, Limit, Damaged, SayFault, DiskFault, Exists, BadStatement, Reorganization, BadStream, Diverged, Flaw}
use Rattle.dms_guard.specs.Statuses.{IsOfOpening}

-- a limit of the audit
abbrev pub IsOfAudit : LimitKind → Type 0
IsOfAudit (AuditFile f) = ⊤
IsOfAudit Lines = ⊥
IsOfAudit Bytes = ⊥
IsOfAudit Held = ⊥

-- what a dump is refused with: no database, a need, a damaged block, or a dump that is there already
abbrev pub IsDumpRefusal : Status → Type 0
IsDumpRefusal Ok = ⊥
IsDumpRefusal BadWords = ⊥
IsDumpRefusal (SchemaRefused f) = ⊥
IsDumpRefusal NoDatabase = ⊤
IsDumpRefusal (Needed n) = ⊤
IsDumpRefusal InputFault = ⊥
IsDumpRefusal Memory = ⊥
IsDumpRefusal (Limit k) = ⊥
IsDumpRefusal (Damaged f b) = ⊤
IsDumpRefusal SayFault = ⊥
IsDumpRefusal DiskFault = ⊥
IsDumpRefusal Exists = ⊤
IsDumpRefusal (BadStatement p) = ⊥
IsDumpRefusal (Reorganization why) = ⊥
IsDumpRefusal (BadStream place) = ⊥
IsDumpRefusal (Diverged file block) = ⊥
IsDumpRefusal (Flaw flaw) = ⊥

-- what keeps a dump from being written
abbrev pub IsOfPreparing : Status → Type 0
IsOfPreparing Ok = ⊥
IsOfPreparing BadWords = ⊥
IsOfPreparing (SchemaRefused f) = ⊥
IsOfPreparing NoDatabase = ⊤
IsOfPreparing (Needed n) = IsOfOpening n
IsOfPreparing InputFault = ⊥
IsOfPreparing Memory = ⊤
IsOfPreparing (Limit k) = IsOfAudit k
IsOfPreparing (Damaged f b) = ⊤
IsOfPreparing SayFault = ⊥
IsOfPreparing DiskFault = ⊤
IsOfPreparing Exists = ⊤
IsOfPreparing (BadStatement p) = ⊥
IsOfPreparing (Reorganization why) = ⊥
IsOfPreparing (BadStream place) = ⊥
IsOfPreparing (Diverged file block) = ⊥
IsOfPreparing (Flaw flaw) = ⊥

-- the statuses of DUMP
abbrev pub IsOfDump : Status → Type 0
IsOfDump Ok = ⊤
IsOfDump BadWords = ⊥
IsOfDump (SchemaRefused f) = ⊥
IsOfDump NoDatabase = ⊤
IsOfDump (Needed n) = IsOfOpening n
IsOfDump InputFault = ⊤
IsOfDump Memory = ⊤
IsOfDump (Limit k) = IsOfAudit k
IsOfDump (Damaged f b) = ⊤
IsOfDump SayFault = ⊤
IsOfDump DiskFault = ⊤
IsOfDump Exists = ⊤
IsOfDump (BadStatement p) = ⊥
IsOfDump (Reorganization why) = ⊥
IsOfDump (BadStream place) = ⊥
IsOfDump (Diverged file block) = ⊥
IsOfDump (Flaw flaw) = ⊥

-- what writing a dump ends with
abbrev pub IsOfWriting : Status → Type 0
IsOfWriting Ok = ⊤
IsOfWriting BadWords = ⊥
IsOfWriting (SchemaRefused f) = ⊥
IsOfWriting NoDatabase = ⊥
IsOfWriting (Needed n) = ⊥
IsOfWriting InputFault = ⊥
IsOfWriting Memory = ⊤
IsOfWriting (Limit k) = ⊥
IsOfWriting (Damaged f b) = ⊥
IsOfWriting SayFault = ⊥
IsOfWriting DiskFault = ⊤
IsOfWriting Exists = ⊥
IsOfWriting (BadStatement p) = ⊥
IsOfWriting (Reorganization why) = ⊥
IsOfWriting (BadStream place) = ⊥
IsOfWriting (Diverged file block) = ⊥
IsOfWriting (Flaw flaw) = ⊥

-- what writing and saying end with
abbrev pub IsOfReady : Status → Type 0
IsOfReady Ok = ⊤
IsOfReady BadWords = ⊥
IsOfReady (SchemaRefused f) = ⊥
IsOfReady NoDatabase = ⊥
IsOfReady (Needed n) = ⊥
IsOfReady InputFault = ⊥
IsOfReady Memory = ⊤
IsOfReady (Limit k) = ⊥
IsOfReady (Damaged f b) = ⊥
IsOfReady SayFault = ⊤
IsOfReady DiskFault = ⊤
IsOfReady Exists = ⊥
IsOfReady (BadStatement p) = ⊥
IsOfReady (Reorganization why) = ⊥
IsOfReady (BadStream place) = ⊥
IsOfReady (Diverged file block) = ⊥
IsOfReady (Flaw flaw) = ⊥

-- the statuses that come before a call on the site is made
abbrev pub IsOfReading : Status → Type 0
IsOfReading Ok = ⊥
IsOfReading BadWords = ⊥
IsOfReading (SchemaRefused f) = ⊥
IsOfReading NoDatabase = ⊥
IsOfReading (Needed n) = ⊥
IsOfReading InputFault = ⊤
IsOfReading Memory = ⊥
IsOfReading (Limit k) = ⊥
IsOfReading (Damaged f b) = ⊥
IsOfReading SayFault = ⊥
IsOfReading DiskFault = ⊥
IsOfReading Exists = ⊥
IsOfReading (BadStatement p) = ⊤
IsOfReading (Reorganization why) = ⊥
IsOfReading (BadStream place) = ⊥
IsOfReading (Diverged file block) = ⊥
IsOfReading (Flaw flaw) = ⊥
