-- The statuses of a run, by where they come from.
use Rattle.std.specs.Prelude.{◌≡◌, ◌<◌, ◌≤◌, ⊤}
use Rattle.dms_guard.specs.Statuses.{IsOfOpening}
use Rattle.dms_status.specs.declared.status.LimitKind.{LimitKind}
use Rattle.dms_status.specs.declared.status.LimitKind.TheVariants.{AuditFile, Lines, Bytes, Held}
use Rattle.dms_status.specs.declared.status.Status.{Status}
use Rattle.dms_status.specs.declared.status.Status.TheVariants.{Ok, BadWords, SchemaRefused, NoDatabase, Needed, InputFault, Memory, Limit, Damaged, SayFault, DiskFault, Exists, BadStatement, Reorganization, BadStream, Diverged, Flaw}

-- the last audit file
abbrev pub IsOfAuditLimit : LimitKind → Type 0
IsOfAuditLimit (AuditFile f) = f ≡ 9999
IsOfAuditLimit Lines = ⊥
IsOfAuditLimit Bytes = ⊥
IsOfAuditLimit Held = ⊥

-- what a fault of a closing ends with
abbrev pub IsOfClosing : Status → Type 0
IsOfClosing Ok = ⊥
IsOfClosing BadWords = ⊥
IsOfClosing (SchemaRefused f) = ⊥
IsOfClosing NoDatabase = ⊥
IsOfClosing (Needed n) = ⊥
IsOfClosing InputFault = ⊥
IsOfClosing Memory = ⊤
IsOfClosing (Limit k) = IsOfAuditLimit k
IsOfClosing (Damaged f b) = ⊥
IsOfClosing SayFault = ⊥
IsOfClosing DiskFault = ⊤
IsOfClosing Exists = ⊥
IsOfClosing (BadStatement p) = ⊥
IsOfClosing (Reorganization why) = ⊥
IsOfClosing (BadStream place) = ⊥
IsOfClosing (Diverged file block) = ⊥
IsOfClosing (Flaw flaw) = ⊥

-- what a fault of a script's run ends with
abbrev pub IsOfScript : Status → Type 0
IsOfScript Ok = ⊥
IsOfScript BadWords = ⊥
IsOfScript (SchemaRefused f) = ⊥
IsOfScript NoDatabase = ⊥
IsOfScript (Needed n) = ⊥
IsOfScript InputFault = ⊤
IsOfScript Memory = ⊤
IsOfScript (Limit k) = ⊤
IsOfScript (Damaged f b) = (30000 < f) × (f ≤ 30200)
IsOfScript SayFault = ⊤
IsOfScript DiskFault = ⊤
IsOfScript Exists = ⊥
IsOfScript (BadStatement p) = ⊥
IsOfScript (Reorganization why) = ⊥
IsOfScript (BadStream place) = ⊥
IsOfScript (Diverged file block) = ⊥
IsOfScript (Flaw flaw) = ⊥

-- the statuses of `run`
abbrev pub IsOfRun : Status → Type 0
IsOfRun Ok = ⊤
IsOfRun BadWords = ⊥
IsOfRun (SchemaRefused f) = ⊥
IsOfRun NoDatabase = ⊤
IsOfRun (Needed n) = IsOfOpening n
IsOfRun InputFault = ⊤
IsOfRun Memory = ⊤
IsOfRun (Limit k) = ⊤
IsOfRun (Damaged f b) = f ≤ 30200
IsOfRun SayFault = ⊤
IsOfRun DiskFault = ⊤
IsOfRun Exists = ⊥
IsOfRun (BadStatement p) = ⊥
IsOfRun (Reorganization why) = ⊥
IsOfRun (BadStream place) = ⊥
IsOfRun (Diverged file block) = ⊥
IsOfRun (Flaw flaw) = ⊥
