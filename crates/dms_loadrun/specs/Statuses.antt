-- The statuses of `load`.
use Rattle.std.specs.Prelude.{◌≤◌, ⊤}
use Rattle.dms_status.specs.declared.status.LimitKind.{LimitKind}
use Rattle.dms_status.specs.declared.status.LimitKind.TheVariants.{AuditFile, Lines, Bytes, Held}
use Rattle.dms_status.specs.declared.status.Status.{Status}
use Rattle.dms_status.specs.declared.status.Status.TheVariants.{Ok, BadWords, SchemaRefused, NoDatabase, Needed, InputFault, Memory, Limit, Damaged, SayFault, DiskFault, Exists, BadStatement, Reorganization, BadStream, Diverged, Flaw}

-- the limits that a script of a load can pass: it has at most 20,004 lines, and no more bytes than a script may have
abbrev pub IsOfLoadLimit : LimitKind → Type 0
IsOfLoadLimit (AuditFile f) = ⊤
IsOfLoadLimit Lines = ⊥
IsOfLoadLimit Bytes = ⊥
IsOfLoadLimit Held = ⊤

-- the statuses of `load`
abbrev pub IsOfLoad : Status → Type 0
IsOfLoad Ok = ⊤
IsOfLoad BadWords = ⊥
IsOfLoad (SchemaRefused f) = ⊥
IsOfLoad NoDatabase = ⊤
IsOfLoad (Needed n) = ⊤
IsOfLoad InputFault = ⊥
IsOfLoad Memory = ⊤
IsOfLoad (Limit k) = IsOfLoadLimit k
IsOfLoad (Damaged f b) = f ≤ 30200
IsOfLoad SayFault = ⊤
IsOfLoad DiskFault = ⊤
IsOfLoad Exists = ⊤
IsOfLoad (BadStatement p) = ⊥
IsOfLoad (Reorganization why) = ⊥
IsOfLoad (BadStream place) = ⊥
IsOfLoad (Diverged file block) = ⊥
IsOfLoad (Flaw flaw) = ⊥

-- the statuses of a database that isn't found as it was made: no database, a need, a damaged block
abbrev pub IsUnfound : Status → Type 0
IsUnfound Ok = ⊥
IsUnfound BadWords = ⊥
IsUnfound (SchemaRefused f) = ⊥
IsUnfound NoDatabase = ⊤
IsUnfound (Needed n) = ⊤
IsUnfound InputFault = ⊥
IsUnfound Memory = ⊥
IsUnfound (Limit k) = ⊥
IsUnfound (Damaged f b) = ⊤
IsUnfound SayFault = ⊥
IsUnfound DiskFault = ⊥
IsUnfound Exists = ⊥
IsUnfound (BadStatement p) = ⊥
IsUnfound (Reorganization why) = ⊥
IsUnfound (BadStream place) = ⊥
IsUnfound (Diverged file block) = ⊥
IsUnfound (Flaw flaw) = ⊥

-- the statuses that come only where there was no sealed description
abbrev pub IsBehindExists : Status → Type 0
IsBehindExists Ok = ⊤
IsBehindExists BadWords = ⊥
IsBehindExists (SchemaRefused f) = ⊥
IsBehindExists NoDatabase = ⊤
IsBehindExists (Needed n) = ⊤
IsBehindExists InputFault = ⊥
IsBehindExists Memory = ⊥
IsBehindExists (Limit k) = ⊤
IsBehindExists (Damaged f b) = ⊤
IsBehindExists SayFault = ⊤
IsBehindExists DiskFault = ⊥
IsBehindExists Exists = ⊥
IsBehindExists (BadStatement p) = ⊥
IsBehindExists (Reorganization why) = ⊥
IsBehindExists (BadStream place) = ⊥
IsBehindExists (Diverged file block) = ⊥
IsBehindExists (Flaw flaw) = ⊥

-- what makes a database doesn't end otherwise
abbrev pub IsOfMaking : Status → Type 0
IsOfMaking Ok = ⊥
IsOfMaking BadWords = ⊥
IsOfMaking (SchemaRefused f) = ⊥
IsOfMaking NoDatabase = ⊥
IsOfMaking (Needed n) = ⊤
IsOfMaking InputFault = ⊥
IsOfMaking Memory = ⊤
IsOfMaking (Limit k) = ⊥
IsOfMaking (Damaged f b) = ⊥
IsOfMaking SayFault = ⊥
IsOfMaking DiskFault = ⊤
IsOfMaking Exists = ⊤
IsOfMaking (BadStatement p) = ⊥
IsOfMaking (Reorganization why) = ⊥
IsOfMaking (BadStream place) = ⊥
IsOfMaking (Diverged file block) = ⊥
IsOfMaking (Flaw flaw) = ⊥

-- the limit of an audit file alone
abbrev pub IsOfAudit : LimitKind → Type 0
IsOfAudit (AuditFile f) = ⊤
IsOfAudit Lines = ⊥
IsOfAudit Bytes = ⊥
IsOfAudit Held = ⊥

-- nor does the run of the script
abbrev pub IsOfFilling : Status → Type 0
IsOfFilling Ok = ⊤
IsOfFilling BadWords = ⊥
IsOfFilling (SchemaRefused f) = ⊥
IsOfFilling NoDatabase = ⊤
IsOfFilling (Needed n) = ⊤
IsOfFilling InputFault = ⊥
IsOfFilling Memory = ⊤
IsOfFilling (Limit k) = IsOfAudit k
IsOfFilling (Damaged f b) = f ≤ 30200
IsOfFilling SayFault = ⊥
IsOfFilling DiskFault = ⊤
IsOfFilling Exists = ⊥
IsOfFilling (BadStatement p) = ⊥
IsOfFilling (Reorganization why) = ⊥
IsOfFilling (BadStream place) = ⊥
IsOfFilling (Diverged file block) = ⊥
IsOfFilling (Flaw flaw) = ⊥

abbrev pub filled_limit : LimitKind → Status
filled_limit (AuditFile f) = Limit (AuditFile f)
filled_limit Lines = Memory
filled_limit Bytes = Memory
filled_limit Held = Memory

-- The status that the run of a script ends a load with, which was counted before. What can't come then counts as want of memory: that it passes a limit of
-- its own, and that its taking or its printing fails.
abbrev pub filled_status : Status → Status
filled_status Ok = Ok
filled_status BadWords = Memory
filled_status (SchemaRefused f) = Memory
filled_status NoDatabase = NoDatabase
filled_status (Needed n) = Needed n
filled_status InputFault = Memory
filled_status Memory = Memory
filled_status (Limit k) = filled_limit k
filled_status (Damaged f b) = Damaged f b
filled_status SayFault = Memory
filled_status DiskFault = DiskFault
filled_status Exists = Memory
filled_status (BadStatement p) = Memory
filled_status (Reorganization why) = Memory
filled_status (BadStream place) = Memory
filled_status (Diverged file block) = Memory
filled_status (Flaw flaw) = Memory
