-- Reconstruction of rows that are named: which rows these are, and why it is refused.
use Rattle.std.specs.Prelude.{ℕ, ◌≡◌, List, [], Some, None}
use Rattle.dms_desc.specs.Shape.{Described, Shape}
use Rattle.dms_desc_bytes.specs.Spelling.{spelling}
use Rattle.dms_desc_bytes.specs.WellFormed.{IsWellFormed}
use Rattle.dms_site.specs.Files.{Files}
use Rattle.dms_history.specs.Entries.{Entry, named_by}
use Rattle.dms_history.specs.EntryEvents.{live_of}
use Rattle.dms_history.specs.Pick.{count_at}
use Rattle.dms_history.specs.SchemaAt.{schema_at}
use Rattle.dms_history.specs.declared.event.Row.{Row}
use Rattle.dms_audfile.specs.TrailEntries.{trail_entries}
use Rattle.dms_restore.specs.Counts.{count_of}
use Rattle.dms_statements.specs.declared.statement.NamedRow.{NamedRow}
use Rattle.dms_opening.specs.declared.choosing.OpenFault.{OpenFault}
use Rattle.dms_opening.specs.Choices.{judge_files}
use Rattle.dms_opening.specs.Openings.{IsTrailFound}
use Rattle.dms_audfile.specs.declared.fault.AudFault.TheVariants as aud
use Rattle.dms_opening.specs.declared.choosing.OpenFault.TheVariants.{Audit}
use Rattle.dms_recovery.specs.declared.rows.RowFault.{RowFault}
use Rattle.dms_recovery.specs.declared.rows.RowFault.TheVariants.{Missing, Memory}
use Rattle.dms_recovery.specs.declared.naming.ReconstructFault.{ReconstructFault}
use Rattle.dms_recovery.specs.declared.naming.ReconstructFault.TheVariants.{Open, NoSuchRow}
use Rattle.dms_recovery.specs.declared.wanted.Wanted.TheVariants.{Reconstruct}
use Rattle.dms_recovery.specs.Leaving.{IsMendedFrom}
use Rattle.dms_recovery.specs.Refusing.{CanBeDone, MayBeDone, RefusesWanted}
use Rattle.dms_recovery.specs.Rows.{AreRowsOf, first_missing, named_blocks}
use Rattle.dms_recovery.specs.Wanting.{asked_for, last_of}

-- This is the description at a point: it is well-formed, and its bytes are those of the last Schema before the place of the point.
pub record IsDescribedBy (entries : List Entry) (n : ℕ) (desc : Described) : Type 0 where
  pub schema_is : schema_at entries n ≡ Some (spelling desc)
  pub well_formed : IsWellFormed desc

-- the structures of the description that these bytes are; none where they are no description
pub record AreStructuresOf (schema : List ℕ) (structures : List Shape) : Type 0 where
  pub described : (d : Described) → IsWellFormed d → spelling d ≡ schema → structures ≡ d.structures
  pub none : ((d : Described) → IsWellFormed d → spelling d ≡ schema → ⊥) → structures ≡ []

-- These are the rows that are named, of a description of these bytes.
pub record FindsRows (schema : List ℕ) (named : List NamedRow) (rows : List Row) : Type 0 where
  pub structures : List Shape
  pub are : AreStructuresOf schema structures
  pub rows_are : AreRowsOf structures named rows

-- This is the first of them that isn't there, by these counts of blocks.
pub record LacksRow (schema counts : List ℕ) (named : List NamedRow) (r : NamedRow) : Type 0 where
  pub structures : List Shape
  pub are : AreStructuresOf schema structures
  pub missing : first_missing structures counts named ≡ Some r

-- Each of them is there, by these counts of blocks.
pub record HasEach (schema counts : List ℕ) (named : List NamedRow) : Type 0 where
  pub structures : List Shape
  pub are : AreStructuresOf schema structures
  pub each : first_missing structures counts named ≡ None

-- These are the bytes of the Schema that a database has at its last point, and so many blocks has each file there.
pub record IsAtLast (total first : ℕ) (files : Files) (schema counts : List ℕ) : Type 0 where
  pub point : ℕ
  pub last : last_of total first files ≡ Some point
  pub schema_is : schema_at (trail_entries total first files) point ≡ Some schema
  pub counts_are : (f : ℕ) → count_of counts f ≡ count_at (live_of (trail_entries total first files)) point f

-- The rows have the blocks of those that are named, by the description at the last point.
abbrev pub NamesRows : Files → List NamedRow → List Row → Type 0
NamesRows files named rows = (total first n : ℕ) (desc : Described) → IsTrailFound total first files → last_of total first files ≡ Some n → IsDescribedBy (trail_entries total first files) n desc
    → (f b : ℕ) → named_by rows f b ≡ named_blocks desc.structures named f b

-- ---- why it is refused

-- No structure has the name of row r, or the row isn't below the blocks of its file at the last point, divided by 16 and rounded up. It is the first such
-- row, and nothing else is refused.
pub record MissesRow (files : Files) (d : ℕ) (named : List NamedRow) (r : NamedRow) : Type 0 where
  pub total : ℕ
  pub first : ℕ
  pub trail : IsTrailFound total first files
  pub none : judge_files total first files (asked_for total first files (Reconstruct d)) ≡ None
  pub schema : List ℕ
  pub counts : List ℕ
  pub at_last : IsAtLast total first files schema counts
  pub lacks : LacksRow schema counts named r

-- The first refusal of the trail, of a restore that is pending, of the last point and of the dump; else the first row that isn't there.
abbrev pub RefusesReconstruct : Files → ℕ → List NamedRow → ReconstructFault → Type 0
RefusesReconstruct files d named (Open fault) = RefusesWanted files (Reconstruct d) fault
RefusesReconstruct files d named (NoSuchRow r) = MissesRow files d named r

-- None of those is refused, and each row is there.
pub record CanReconstruct (total first : ℕ) (files : Files) (d : ℕ) (named : List NamedRow) : Type 0 where
  pub can : CanBeDone total first files (Reconstruct d)
  pub there : (schema counts : List ℕ) (r : NamedRow) → IsAtLast total first files schema counts → LacksRow schema counts named r → ⊥

-- Scanning refuses nothing in these files, nor is the restore refused, and each row is there at the last point.
pub record MayMend (files : Files) (d : ℕ) (named : List NamedRow) : Type 0 where
  pub may : MayBeDone files (Reconstruct d)
  pub schema : List ℕ
  pub counts : List ℕ
  pub at_last : IsAtLast may.total may.first files schema counts
  pub there : HasEach schema counts named

-- why rows that are named aren't found
abbrev pub fault_of_row : RowFault → ReconstructFault
fault_of_row (Missing r) = NoSuchRow r
fault_of_row Memory = Open (Audit aud.Memory)

-- it is a fault of what is wanted, of this kind
abbrev pub IsOpenFault : ReconstructFault → (OpenFault → Type 0) → Type 0
IsOpenFault (Open fault) P = P fault
IsOpenFault (NoSuchRow r) P = ⊥

-- ---- what it is of

-- Scanning refuses nothing in these files, and n is the last point, with this description. The files are those of a database but for the blocks of the rows
-- that are named, and dump d is a true one of it.
pub record MayReconstruct (total first : ℕ) (files u : Files) (d : ℕ) (named : List NamedRow) (n : ℕ) (desc : Described) : Type 0 where
  pub trail : IsTrailFound total first files
  pub last : last_of total first files ≡ Some n
  pub described : IsDescribedBy (trail_entries total first files) n desc
  pub mended : IsMendedFrom total first files u d (named_blocks desc.structures named)
