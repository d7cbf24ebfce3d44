-- What `ship` prints: the stream of a trail from an audit file on.
use Rattle.std.specs.Prelude.{ℕ, ◌+◌, ◌-◌, ◌≤◌, ◌≡◌, ◌⊎◌, List, [], ◌∷◌, ◌++◌, length}
use Rattle.dms_site.specs.Files.{Files, Left, PrintsPartOf}
use Rattle.dms_desc.specs.Shape.{Described}
use Rattle.dms_desc_bytes.specs.Spelling.{spelling}
use Rattle.dms_descfile.specs.DescriptionFile.{IsSealed}
use Rattle.dms_audfile.specs.Trail.{trail_from}
use Rattle.dms_audfile.specs.Sealing.{IsWrittenUpTo}
use Rattle.dms_audfile.specs.Scanning.{Placed, found}
use Rattle.dms_audfile.specs.AuditTrail.{IsScanned}
use Rattle.dms_audfile.specs.Reads.{Refuses}
use Rattle.dms_audfile.specs.declared.fault.AudFault.{AudFault}
use Rattle.dms_audfile.specs.declared.fault.AudFault.TheVariants.{NoDatabase, Disk, Full, Missing, Unsealed, Damaged, Foreign, Memory}
use Rattle.dms_stream.specs.Stream.{Heading, record_bytes, stream_bytes}
use Rattle.dms_remote.specs.declared.fault.RemoteFault.{RemoteFault}
use Rattle.dms_remote.specs.declared.fault.RemoteFault.TheVariants.{Audit, Input, Bytes, Say, BadStream, Diverged}

-- the sealed blocks of a trail that ends in file `last`, from audit file k on
abbrev pub blocks_on : ℕ → ℕ → ℕ → Files → List (List ℕ)
blocks_on total last k files = trail_from (last + 1 - (10000 + k)) total (10000 + k) files

-- The trail of a database that is shipped from audit file k on: it is whole, and begins with that file or before it.
pub record IsShipped (k : ℕ) (files : Files) (h : Heading) (last count : ℕ) : Type 0 where
  pub desc : Described
  pub described : IsSealed (files 1) desc
  pub says : h.description ≡ spelling desc
  pub entries : List Placed
  pub trail : IsScanned files (found entries)
  pub writes : IsWrittenUpTo h.total h.tag trail.first last count files
  pub within : trail.first ≤ 10000 + k

-- These bytes are its stream: its tag, how many blocks its audit files have, its description, and its blocks from that file on.
pub record IsStreamOf (k : ℕ) (files : Files) (bytes : List ℕ) : Type 0 where
  pub heading : Heading
  pub last : ℕ
  pub count : ℕ
  pub ships : IsShipped k files heading last count
  pub is : bytes ≡ stream_bytes heading k (blocks_on heading.total last k files)

-- the stream was printed
pub record PrintsStream (k : ℕ) (files : Files) (old new : List ℕ) : Type 0 where
  pub bytes : List ℕ
  pub stream : IsStreamOf k files bytes
  pub said : new ≡ old ++ bytes

-- some first bytes of these were printed
pub record PrintsFirst (bytes old new : List ℕ) : Type 0 where
  pub printed : List ℕ
  pub rest : List ℕ
  pub whole : bytes ≡ printed ++ rest
  pub said : new ≡ old ++ printed

-- some first bytes of the stream were printed
pub record PrintsStreamFirst (k : ℕ) (files : Files) (old new : List ℕ) : Type 0 where
  pub bytes : List ℕ
  pub stream : IsStreamOf k files bytes
  pub first : PrintsFirst bytes old new

-- nothing was printed, or these were
abbrev pub PrintsStreamPart : ℕ → Files → List ℕ → List ℕ → Type 0
PrintsStreamPart k files old new = (new ≡ old) ⊎ PrintsStreamFirst k files old new

-- what is printed at each moment: some bytes, and the files stay
abbrev pub PrintsSome : Left → Left → Type 0
PrintsSome old new = (bytes : List ℕ) × PrintsPartOf bytes old new

-- ---- the parts of it

-- the records of these blocks of audit file k, the first being block i
abbrev pub placed_bytes : ℕ → ℕ → List (List ℕ) → List ℕ
placed_bytes k i [] = []
placed_bytes k i (b ∷ bs) = record_bytes k i b ++ placed_bytes k (i + 1) bs

-- each block has all its bytes
abbrev pub AreWhole : List (List ℕ) → Type 0
AreWhole [] = Unit {0}
AreWhole (b ∷ bs) = (length b ≡ 4096) × AreWhole bs

-- ---- refusals

-- the trail is whole, and begins with the file behind audit file n, which stands behind file k
pub record BeginsBehind (k n : ℕ) (files : Files) : Type 0 where
  pub entries : List Placed
  pub trail : IsScanned files (found entries)
  pub first_is : trail.first ≡ 10001 + n
  pub behind : k ≤ n

-- why a trail isn't shipped from audit file k on: the first refusal of scanning; or it begins behind that file
abbrev pub RefusesFrom : ℕ → Files → AudFault → Type 0
RefusesFrom k files NoDatabase = Refuses files NoDatabase
RefusesFrom k files Disk = Refuses files Disk
RefusesFrom k files (Full n) = Refuses files (Full n)
RefusesFrom k files (Missing n) = Refuses files (Missing n) ⊎ BeginsBehind k n files
RefusesFrom k files (Unsealed n) = Refuses files (Unsealed n)
RefusesFrom k files (Damaged f b) = Refuses files (Damaged f b)
RefusesFrom k files (Foreign n) = Refuses files (Foreign n)
RefusesFrom k files Memory = Refuses files Memory

-- so `ship` refuses it; a failure of printing says nothing
abbrev pub RefusesShip : ℕ → Files → RemoteFault → Type 0
RefusesShip k files (Audit fault) = RefusesFrom k files fault
RefusesShip k files Input = ⊥
RefusesShip k files Bytes = ⊥
RefusesShip k files Say = Unit {0}
RefusesShip k files (BadStream p) = ⊥
RefusesShip k files (Diverged f b) = ⊥

-- the faults of shipping: those of the audit, and a failure of printing
abbrev pub IsOfShipping : RemoteFault → Type 0
IsOfShipping (Audit fault) = Unit {0}
IsOfShipping Input = ⊥
IsOfShipping Bytes = ⊥
IsOfShipping Say = Unit {0}
IsOfShipping (BadStream p) = ⊥
IsOfShipping (Diverged f b) = ⊥

-- a failure of the disk or of printing, or want of memory
abbrev pub IsLateAudit : AudFault → Type 0
IsLateAudit NoDatabase = ⊥
IsLateAudit Disk = Unit {0}
IsLateAudit (Full k) = ⊥
IsLateAudit (Missing k) = ⊥
IsLateAudit (Unsealed k) = ⊥
IsLateAudit (Damaged f b) = ⊥
IsLateAudit (Foreign k) = ⊥
IsLateAudit Memory = Unit {0}

abbrev pub IsLate : RemoteFault → Type 0
IsLate (Audit fault) = IsLateAudit fault
IsLate Input = ⊥
IsLate Bytes = ⊥
IsLate Say = Unit {0}
IsLate (BadStream p) = ⊥
IsLate (Diverged f b) = ⊥
