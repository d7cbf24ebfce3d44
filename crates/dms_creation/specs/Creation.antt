-- A database that is made, and what a stop leaves while it is.
use Rattle.std.specs.Prelude.{ℕ, ◌<◌, ◌≤◌, ◌≡◌, ◌≢◌, ◌⊎◌, Bool, true, false, List, [], ◌∷◌, length, slice_index}
use Rattle.dms_history.specs.Entries.{Entry}
use Rattle.dms_moments.specs.Moments.{Clock, Now, Runs}
use Rattle.dms_desc.specs.Shape.{Described}
use Rattle.dms_site.specs.Files.{Files, Left, overlay_bytes}
use Rattle.dms_site.specs.declared.site.Site.{Ghosts}
use Rattle.dms_audfile.specs.Sealing.{IsWrittenUpTo}
use Rattle.dms_audfile.specs.Trail.{trail_from}
use Rattle.dms_audfile.specs.TrailEntries.{trail_entries}
use Rattle.dms_audfile.specs.Ends.{AllHoldAnEntry}
use Rattle.dms_creation.specs.Clearing.{Cleared, ApartStay, AllButDescriptionStay}
use Rattle.dms_creation.specs.FirstEntries.{first_entries}

-- the description file with the database's gate open, its other bytes as they were
abbrev pub gate_open : List ℕ → List ℕ
gate_open file = overlay_bytes 1 (1 ∷ []) file

-- whether the gate of the database is open in a description file
pub record IsGate (is_open : Bool) (file : List ℕ) : Type 0 where
  pub opened : is_open ≡ true → slice_index file 1 ≡ 1
  pub shut : is_open ≡ false → slice_index file 1 ≢ 1

-- The trail of a new database stands: it begins with audit file 1, with so many blocks a file and that tag, and is exactly these
-- entries, in blocks each of which is in its grammar and holds one. No audit file is present behind it, and no dump and no
-- structure file is.
pub record IsFirstTrail (tag total : ℕ) (entries : List Entry) (files : Files) : Type 0 where
  pub file : ℕ
  pub count : ℕ
  pub writes : IsWrittenUpTo total tag 10001 file count files
  pub high : file ≤ 20000
  pub exactly : trail_entries total 10001 files ≡ entries
  pub filled : AllHoldAnEntry (trail_from 10000 total 10001 files)
  pub behind : (g : ℕ) → file < g → g ≤ 20000 → files g ≡ []
  pub dumps : Cleared 20001 29999 files
  pub structures : Cleared 30001 30200 files

-- All but the gate of a new database stands. Each file that is no audit file, dump or structure file is as in `old`.
pub record IsReadyToOpen (tag : ℕ) (d : Described) (old files : Files) : Type 0 where
  pub apart : ApartStay old files
  pub trail : IsFirstTrail tag d.blocks (first_entries d) files

-- The new database of a description, made of these files: the gate of the database is open in the description file, and its trail
-- stands. Each other file that is no audit file, dump or structure file is as it was.
pub record IsMade (tag : ℕ) (d : Described) (old files : Files) : Type 0 where
  pub here : files 1 ≡ gate_open (old 1)
  pub trail : IsFirstTrail tag d.blocks (first_entries d) files
  pub others : AllButDescriptionStay old files

-- a description file in which the gate of the database isn't open, and that is otherwise this one
pub record IsShut (one file : List ℕ) : Type 0 where
  pub shut : slice_index file 1 ≢ 1
  pub long : length file ≡ length one
  pub bytes : (i : ℕ) → i < length one → i ≢ 1 → slice_index file i ≡ slice_index one i

-- no database stands, and no file but the gate, the audit files, the dumps and the structure files is another than in `old`
pub record IsUnmade (old files : Files) : Type 0 where
  pub here : IsShut (old 1) (files 1)
  pub others : AllButDescriptionStay old files

-- no database, since its gate isn't open in the description file, or exactly the new one
abbrev pub IsCreation : ℕ → Described → Files → Left → Type 0
IsCreation tag d old x = IsUnmade old x.files ⊎ IsMade tag d old x.files

-- Each outcome that a stop on the way left is one that it could leave at the old moment, or there is no database in it, or exactly
-- the new one.
abbrev pub Initializes : ℕ → Described → Files → Clock Left → Clock Left → Type 0
Initializes tag d files old new = Runs old new (λ x. Now old x ⊎ IsCreation tag d files x)

-- so it is between two times of a site
abbrev pub InitializesSite : {S : Type 0} → Ghosts S → ℕ → Described → S → S → Type 0
InitializesSite g tag d a b = Initializes tag d (g.files a) (g.clock a) (g.clock b)
