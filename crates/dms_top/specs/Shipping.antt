-- The command `ship`: its statuses, and its promises.
use Rattle.std.specs.Prelude.{ℕ, ◌≡◌, ◌⊎◌, ⊤, IsTrue}
use Rattle.std.specs.declared.result.Result.{Result}
use Rattle.std.specs.declared.result.Result.TheVariants as result
use Rattle.dms_plain.specs.Speaking.{OnlySpeaks}
use Rattle.dms_site.specs.declared.site.Site.{Ghosts}
use Rattle.dms_site.specs.Files.{Files}
use Rattle.dms_audfile.specs.AuditTrail.{TrailIs}
use Rattle.dms_audfile.specs.Scanning.{no_database, unsealed, missing, damaged, foreign}
use Rattle.dms_audfile.specs.declared.fault.AudFault.{AudFault}
use Rattle.dms_audfile.specs.declared.fault.AudFault.TheVariants as fault
use Rattle.dms_remote.specs.Shipping.{BeginsBehind, PrintsStream, PrintsStreamPart}
use Rattle.dms_remote.specs.declared.fault.RemoteFault.{RemoteFault}
use Rattle.dms_remote.specs.declared.fault.RemoteFault.TheVariants as remote
use Rattle.dms_status.specs.declared.status.LimitKind.TheVariants as limit
use Rattle.dms_status.specs.declared.status.NeedFault.{NeedFault}
use Rattle.dms_status.specs.declared.status.NeedFault.TheVariants.{NoDescription, AuditMissing, AuditUnsealed, AuditForeign, NoSuchPoint, Voided, DumpMissing, DumpUnsealed, DumpForeign, DumpLater, NoSuchRow}
use Rattle.dms_status.specs.declared.status.Status.{Status}
use Rattle.dms_status.specs.declared.status.Status.TheVariants.{Ok, BadWords, SchemaRefused, NoDatabase, Needed, InputFault, Memory, Limit, Damaged, SayFault, DiskFault, Exists, BadStatement, Reorganization, BadStream, Diverged, Flaw}
use Rattle.dms_top.specs.Auditing.{IsOfPrinting}
use Rattle.dms_top.specs.Words.{ComesUnsaid}

-- that need is what scanning the trail of these files refuses, or its trail begins behind audit file k
abbrev pub NeedsTrail : ℕ → Files → NeedFault → Type 0
NeedsTrail k files NoDescription = ⊥
NeedsTrail k files (AuditMissing n) = TrailIs files (missing n) ⊎ BeginsBehind k n files
NeedsTrail k files (AuditUnsealed n) = TrailIs files (unsealed n)
NeedsTrail k files (AuditForeign n) = TrailIs files (foreign n)
NeedsTrail k files (NoSuchPoint n) = ⊥
NeedsTrail k files (Voided n) = ⊥
NeedsTrail k files (DumpMissing d) = ⊥
NeedsTrail k files (DumpUnsealed d) = ⊥
NeedsTrail k files (DumpForeign d) = ⊥
NeedsTrail k files (DumpLater d n) = ⊥
NeedsTrail k files (NoSuchRow name r) = ⊥

-- A status that refuses the trail is its first refusal by scanning, or says that it begins behind audit file k; the others say nothing of it.
abbrev pub JudgesShip : ℕ → Files → Status → Type 0
JudgesShip k files Ok = ⊤
JudgesShip k files BadWords = ⊤
JudgesShip k files (SchemaRefused f) = ⊤
JudgesShip k files NoDatabase = TrailIs files no_database
JudgesShip k files (Needed n) = NeedsTrail k files n
JudgesShip k files InputFault = ⊤
JudgesShip k files Memory = ⊤
JudgesShip k files (Limit l) = ⊤
JudgesShip k files (Damaged f b) = TrailIs files (damaged f b)
JudgesShip k files SayFault = ⊤
JudgesShip k files DiskFault = ⊤
JudgesShip k files Exists = ⊤
JudgesShip k files (BadStatement p) = ⊤
JudgesShip k files (Reorganization why) = ⊤
JudgesShip k files (BadStream place) = ⊤
JudgesShip k files (Diverged file block) = ⊤
JudgesShip k files (Flaw flaw) = ⊤

-- The status behind a fault of the audit. Where nothing is sealed no file is full; that is told as want of memory.
abbrev pub audit_fault_status : AudFault → Status
audit_fault_status fault.NoDatabase = NoDatabase
audit_fault_status fault.Disk = DiskFault
audit_fault_status (fault.Full k) = Memory
audit_fault_status (fault.Missing k) = Needed (AuditMissing k)
audit_fault_status (fault.Unsealed k) = Needed (AuditUnsealed k)
audit_fault_status (fault.Damaged f b) = Damaged f b
audit_fault_status (fault.Foreign k) = Needed (AuditForeign k)
audit_fault_status fault.Memory = Memory

-- the status behind a fault of a remote copy
abbrev pub remote_status : RemoteFault → Status
remote_status (remote.Audit why) = audit_fault_status why
remote_status remote.Input = InputFault
remote_status remote.Bytes = Limit limit.Bytes
remote_status remote.Say = SayFault
remote_status (remote.BadStream p) = BadStream p
remote_status (remote.Diverged f b) = Diverged f b

-- the status behind shipping
abbrev pub ship_status : {T : Type 0} → Result T RemoteFault → Status
ship_status (result.Ok done) = Ok
ship_status (result.Err why) = remote_status why

-- What `ship K` promises of a site before and after it, and of the status.
pub record ShipDoes {S : Type 0} (g : Ghosts S) (k : ℕ) (old new : S) (status : Status) : Type 0 where
  -- only the statuses of `print audit` come: 0, 3, 4 for an audit file, 5, 7, 9 and 10
  pub statuses : IsOfPrinting status
  -- at status 0 exactly the stream of the trail from audit file k on was printed
  pub prints : status ≡ Ok → IsTrue g.tells → IsTrue g.tells_said → PrintsStream k (g.files old) (g.said old) (g.said new)
  -- at every status a prefix of it was printed, or nothing
  pub part : IsTrue g.tells → IsTrue g.tells_said → PrintsStreamPart k (g.files old) (g.said old) (g.said new)
  -- at the statuses 3, 4 and 9 nothing was printed
  pub silent : IsTrue g.tells → ComesUnsaid status → g.said new ≡ g.said old
  -- those three come only as the first refusal of the trail, in the order of scanning, and 4 where the trail begins behind audit file k
  pub refused : IsTrue g.tells → JudgesShip k (g.files old) status
  -- the files stay
  pub files : IsTrue g.tells → g.files new ≡ g.files old
  -- a stop at each moment leaves what a stop at entry could leave, with more text or none
  pub only_speaks : OnlySpeaks (g.clock old) (g.clock new)
