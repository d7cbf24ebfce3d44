-- The end of a trail, from one of its blocks on.
use Rattle.std.specs.Prelude.{ℕ, ◌+◌, ◌-◌, ◌≤◌, ◌==◌, ◌≡◌, if◌then◌else◌, List, ◌++◌, map}
use Rattle.dms_site.specs.Files.{Files}
use Rattle.dms_audfile.specs.Sealing.{IsWrittenUpTo}
use Rattle.dms_audfile.specs.Scanning.{Placed, place_in, TrailRead, whole, then_read, blocks_read, files_read, found}
use Rattle.dms_audfile.specs.AuditTrail.{IsScanned}
use Rattle.dms_audfile.specs.declared.place.EntryPlace.{EntryPlace}

-- how many blocks of file g are sealed, where a trail is written up to block n of file f
abbrev pub sealed_in : ℕ → ℕ → ℕ → ℕ → ℕ
sealed_in total f n g = if g == f then n else total

-- what is read from block i of file g on, up to that end
abbrev pub tail_read : ℕ → ℕ → ℕ → ℕ → ℕ → Files → TrailRead
tail_read total f n g i files = then_read (blocks_read (sealed_in total f n g + 1 - i) i g (files g)) (files_read (f - g) total (g + 1) files)

-- All that is read is in its grammar, and its entries begin at these places.
pub record ReadsPlaces (read : TrailRead) (places : List EntryPlace) : Type 0 where
  pub placed : List Placed
  pub read_is : read ≡ whole placed
  pub places_are : places ≡ map place_in placed

-- All that is read is in its grammar, and its entries are the last of these.
pub record ReadsLast (read : TrailRead) (all : List Placed) : Type 0 where
  pub before : List Placed
  pub last : List Placed
  pub are : before ++ last ≡ all
  pub read_is : read ≡ whole last

-- Law: so it is of what scanning finds, whatever block of the trail it is read from.
abbrev pub TailIsFound : Type 0
TailIsFound = (files : Files) (ps : List Placed) (t : IsScanned files (found ps)) (total tag f n g i : ℕ) → IsWrittenUpTo total tag t.first f n files → t.first ≤ g → g ≤ f → 1 ≤ i → i ≤ sealed_in total f n g + 1
    → ReadsLast (tail_read total f n g i files) ps
