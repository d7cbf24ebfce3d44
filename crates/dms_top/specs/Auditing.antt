-- The command `print audit`: its statuses, and its promises.
use Rattle.std.specs.Prelude.{◌≡◌, ⊤, IsTrue}
use Rattle.std.specs.declared.result.Result.{Result}
use Rattle.std.specs.declared.result.Result.TheVariants as result
use Rattle.dms_plain.specs.Speaking.{OnlySpeaks}
use Rattle.dms_site.specs.declared.site.Site.{Ghosts}
use Rattle.dms_site.specs.Files.{Files}
use Rattle.dms_audfile.specs.AuditTrail.{TrailIs}
use Rattle.dms_audfile.specs.Scanning.{no_database, unsealed, missing, damaged, foreign}
use Rattle.dms_audfile.specs.declared.fault.AudFault.TheVariants as fault
use Rattle.dms_audprint.specs.AuditText.{HasTrail, PrintsAudit, PrintsPart}
use Rattle.dms_audprint.specs.declared.fault.PrintFault.{PrintFault}
use Rattle.dms_audprint.specs.declared.fault.PrintFault.TheVariants.{Audit, Say}
use Rattle.dms_status.specs.declared.status.NeedFault.{NeedFault}
use Rattle.dms_status.specs.declared.status.NeedFault.TheVariants.{NoDescription, AuditMissing, AuditUnsealed, AuditForeign, NoSuchPoint, Voided, DumpMissing, DumpUnsealed, DumpForeign, DumpLater, NoSuchRow}
use Rattle.dms_status.specs.declared.status.Status.{Status}
use Rattle.dms_status.specs.declared.status.Status.TheVariants.{Ok, BadWords, SchemaRefused, NoDatabase, Needed, InputFault, Memory, Limit, Damaged, SayFault, DiskFault, Exists, BadStatement, Reorganization, BadStream, Diverged, Flaw}
use Rattle.dms_top.specs.Words.{ComesUnsaid}

-- the need of an audit file
abbrev pub IsOfAudit : NeedFault → Type 0
IsOfAudit NoDescription = ⊥
IsOfAudit (AuditMissing k) = ⊤
IsOfAudit (AuditUnsealed k) = ⊤
IsOfAudit (AuditForeign k) = ⊤
IsOfAudit (NoSuchPoint n) = ⊥
IsOfAudit (Voided n) = ⊥
IsOfAudit (DumpMissing d) = ⊥
IsOfAudit (DumpUnsealed d) = ⊥
IsOfAudit (DumpForeign d) = ⊥
IsOfAudit (DumpLater d n) = ⊥
IsOfAudit (NoSuchRow name r) = ⊥

-- the statuses of `print audit`
abbrev pub IsOfPrinting : Status → Type 0
IsOfPrinting Ok = ⊤
IsOfPrinting BadWords = ⊥
IsOfPrinting (SchemaRefused f) = ⊥
IsOfPrinting NoDatabase = ⊤
IsOfPrinting (Needed n) = IsOfAudit n
IsOfPrinting InputFault = ⊥
IsOfPrinting Memory = ⊤
IsOfPrinting (Limit l) = ⊥
IsOfPrinting (Damaged f b) = ⊤
IsOfPrinting SayFault = ⊤
IsOfPrinting DiskFault = ⊤
IsOfPrinting Exists = ⊥
IsOfPrinting (BadStatement p) = ⊥
IsOfPrinting (Reorganization why) = ⊥
IsOfPrinting (BadStream place) = ⊥
IsOfPrinting (Diverged file block) = ⊥
IsOfPrinting (Flaw flaw) = ⊥

-- that need is what scanning the trail of these files refuses
abbrev pub NeedsAudit : Files → NeedFault → Type 0
NeedsAudit files NoDescription = ⊤
NeedsAudit files (AuditMissing k) = TrailIs files (missing k)
NeedsAudit files (AuditUnsealed k) = TrailIs files (unsealed k)
NeedsAudit files (AuditForeign k) = TrailIs files (foreign k)
NeedsAudit files (NoSuchPoint n) = ⊥
NeedsAudit files (Voided n) = ⊥
NeedsAudit files (DumpMissing d) = ⊥
NeedsAudit files (DumpUnsealed d) = ⊥
NeedsAudit files (DumpForeign d) = ⊥
NeedsAudit files (DumpLater d n) = ⊥
NeedsAudit files (NoSuchRow name r) = ⊥

-- At status 0 these files hold a trail. A status that refuses it is its first refusal by scanning; the others say nothing of it.
abbrev pub JudgesTrail : Files → Status → Type 0
JudgesTrail files Ok = HasTrail files
JudgesTrail files BadWords = ⊤
JudgesTrail files (SchemaRefused f) = ⊤
JudgesTrail files NoDatabase = TrailIs files no_database
JudgesTrail files (Needed n) = NeedsAudit files n
JudgesTrail files InputFault = ⊤
JudgesTrail files Memory = ⊤
JudgesTrail files (Limit l) = ⊤
JudgesTrail files (Damaged f b) = TrailIs files (damaged f b)
JudgesTrail files SayFault = ⊤
JudgesTrail files DiskFault = ⊤
JudgesTrail files Exists = ⊤
JudgesTrail files (BadStatement p) = ⊤
JudgesTrail files (Reorganization why) = ⊤
JudgesTrail files (BadStream place) = ⊤
JudgesTrail files (Diverged file block) = ⊤
JudgesTrail files (Flaw flaw) = ⊤

-- The status behind printing the audit. Nothing is sealed then, so no file is full; that is told as want of memory.
abbrev pub audit_status : {T : Type 0} → Result T PrintFault → Status
audit_status (result.Ok done) = Ok
audit_status (result.Err (Audit fault.NoDatabase)) = NoDatabase
audit_status (result.Err (Audit fault.Disk)) = DiskFault
audit_status (result.Err (Audit (fault.Full k))) = Memory
audit_status (result.Err (Audit (fault.Missing k))) = Needed (AuditMissing k)
audit_status (result.Err (Audit (fault.Unsealed k))) = Needed (AuditUnsealed k)
audit_status (result.Err (Audit (fault.Damaged f b))) = Damaged f b
audit_status (result.Err (Audit (fault.Foreign k))) = Needed (AuditForeign k)
audit_status (result.Err (Audit fault.Memory)) = Memory
audit_status (result.Err Say) = SayFault

-- What `print audit` promises of a site before and after it, and of the status.
pub record AuditDoes {S : Type 0} (g : Ghosts S) (old new : S) (status : Status) : Type 0 where
  -- only the statuses 0, 3, 4 for an audit file, 5, 7, 9 and 10 come
  pub statuses : IsOfPrinting status
  -- at status 0 exactly a line for each entry of the trail was printed
  pub prints : status ≡ Ok → IsTrue g.tells → IsTrue g.tells_said → PrintsAudit (g.files old) (g.said old) (g.said new)
  -- at every status a prefix of these lines was printed, or nothing
  pub part : IsTrue g.tells → IsTrue g.tells_said → PrintsPart (g.files old) (g.said old) (g.said new)
  -- at the statuses 3, 4 and 9 nothing was printed
  pub silent : IsTrue g.tells → ComesUnsaid status → g.said new ≡ g.said old
  -- at status 0 the files hold a trail; those three come only as its first refusal, in the order of scanning
  pub refused : IsTrue g.tells → JudgesTrail (g.files old) status
  -- the files stay
  pub files : IsTrue g.tells → g.files new ≡ g.files old
  -- a stop at each moment leaves what a stop at entry could leave, with more text or none
  pub only_speaks : OnlySpeaks (g.clock old) (g.clock new)
