-- Printing entries by their places.
use Rattle.std.specs.Prelude.{ℕ, ◌-◌, ◌≤◌, ◌≡◌, List, [], ◌∷◌, ◌++◌, take, Option, Some, None}
use Rattle.dms_history.specs.Entries.{Entry}
use Rattle.dms_site.specs.Files.{Files, Left, PrintsPartOf}
use Rattle.dms_audfile.specs.AuditTrail.{entry_there}
use Rattle.dms_audfile.specs.Reads.{Refuses}
use Rattle.dms_audfile.specs.declared.fault.AudFault.{AudFault}
use Rattle.dms_audfile.specs.declared.fault.AudFault.TheVariants.{NoDatabase, Disk, Full, Missing, Unsealed, Damaged, Foreign, Memory}
use Rattle.dms_audfile.specs.declared.place.EntryPlace.{EntryPlace}
use Rattle.dms_audprint.specs.Lines.{entry_line}
use Rattle.dms_audprint.specs.declared.fault.PrintFault.{PrintFault}
use Rattle.dms_audprint.specs.declared.fault.PrintFault.TheVariants.{Audit, Say}

-- the line of what stands at a place, nothing where no entry does
abbrev pub line_of : EntryPlace → Option Entry → List ℕ
line_of p None = []
line_of p (Some e) = entry_line (p.file - 10000) p.block e

abbrev pub line_at : Files → EntryPlace → List ℕ
line_at files p = line_of p (entry_there files p)

abbrev pub lines_at : Files → List EntryPlace → List ℕ
lines_at files [] = []
lines_at files (p ∷ ps) = line_at files p ++ lines_at files ps

-- an entry stands at a place, in a block of an audit file
pub record HoldsEntry (files : Files) (p : EntryPlace) : Type 0 where
  pub entry : Entry
  pub there : entry_there files p ≡ Some entry
  pub within : p.block ≤ 512

abbrev pub AllHoldEntries : Files → List EntryPlace → Type 0
AllHoldEntries files [] = Unit {0}
AllHoldEntries files (p ∷ ps) = HoldsEntry files p × AllHoldEntries files ps

-- the first bytes of these were printed
abbrev pub PrintsFront : List ℕ → List ℕ → List ℕ → Type 0
PrintsFront bytes old new = (k : ℕ) × (new ≡ old ++ take k bytes)

-- some bytes were printed, and the files stay
abbrev pub PrintsSome : Left → Left → Type 0
PrintsSome old new = (bytes : List ℕ) × PrintsPartOf bytes old new

-- a failure of the disk, or want of memory
abbrev pub IsOfOutside : AudFault → Type 0
IsOfOutside NoDatabase = ⊥
IsOfOutside Disk = Unit {0}
IsOfOutside (Full k) = ⊥
IsOfOutside (Missing k) = ⊥
IsOfOutside (Unsealed k) = ⊥
IsOfOutside (Damaged f b) = ⊥
IsOfOutside (Foreign k) = ⊥
IsOfOutside Memory = Unit {0}

-- a failure of the disk or of printing, or want of memory
abbrev pub IsLate : PrintFault → Type 0
IsLate (Audit fault) = IsOfOutside fault
IsLate Say = Unit {0}

-- why it isn't printed: the first refusal of scanning; a failure of the disk or of printing or want of memory says nothing
abbrev pub RefusesAudit : Files → PrintFault → Type 0
RefusesAudit files (Audit fault) = Refuses files fault
RefusesAudit files Say = Unit {0}
