-- A trail by its blocks, whatever entries they hold: what is found of it, and how it goes on.
use Rattle.std.specs.Prelude.{ℕ, ◌+◌, ◌<◌, ◌≤◌, ◌≡◌, true, List, [], ◌∷◌, ◌++◌, take, Some}
use Rattle.dms_site.specs.Files.{Files}
use Rattle.dms_history.specs.Entries.{Entry}
use Rattle.dms_audfile.specs.Blocks.{EntryInBlock, block_entries}
use Rattle.dms_audfile.specs.Trail.{trail_from}
use Rattle.dms_audfile.specs.TrailEntries.{entries_in}
use Rattle.dms_audfile.specs.Sealing.{IsWrittenUpTo, Grows}
use Rattle.dms_audfile.specs.Scanning.{Placed, whole, found}
use Rattle.dms_audfile.specs.TrailLaws.{read_trail}
use Rattle.dms_audfile.specs.AuditTrail.{IsScanned, AreThere}
use Rattle.dms_audfile.specs.ScanLaws.{IsFoundWith}
use Rattle.dms_audfile.specs.Database.{HasDatabase}
use Rattle.dms_audfile.specs.WholeSchema.{holds_schema}

-- the bytes of a block are in its grammar, with these entries or others
pub record IsInGrammar (block : List ℕ) : Type 0 where
  pub entries : List EntryInBlock
  pub read : block_entries block ≡ Some entries

abbrev pub AreInGrammar : List (List ℕ) → Type 0
AreInGrammar [] = Unit {0}
AreInGrammar (b ∷ bs) = IsInGrammar b × AreInGrammar bs

-- The sealed blocks of the trail that begins with file `first` are exactly these, it is written up to block n of file f, and no audit file stands
-- directly before it or two behind it.
pub record IsTrailOf (total tag first f n : ℕ) (blocks : List (List ℕ)) (files : Files) : Type 0 where
  pub low : 10001 ≤ first
  pub high : f ≤ 20000
  pub writes : IsWrittenUpTo total tag first f n files
  pub trail : trail_from 10000 total first files ≡ blocks
  pub before : (g : ℕ) → 10001 ≤ g → g + 1 ≡ first → files g ≡ []
  pub behind : (g : ℕ) → f + 1 < g → g ≤ 20000 → files g ≡ []

-- so it is, wherever it ends
pub record HasTrailOf (total tag first : ℕ) (blocks : List (List ℕ)) (files : Files) : Type 0 where
  pub file : ℕ
  pub count : ℕ
  pub is : IsTrailOf total tag first file count blocks files

-- scanning finds these entries, and their trail begins with that file
pub record IsFoundAt (first : ℕ) (entries : List Entry) (files : Files) : Type 0 where
  pub finds : IsFoundWith entries files
  pub first_is : finds.trail.first ≡ first

-- Law: scanning finds the entries of these blocks, where each is in its grammar, a whole Schema with its Control is among them, and there is a database.
abbrev pub BlocksAreFound : Type 0
BlocksAreFound = (total tag first f n : ℕ) (blocks : List (List ℕ)) (files : Files) → IsTrailOf total tag first f n blocks files → AreInGrammar blocks → HasDatabase (files 1)
    → holds_schema (entries_in blocks) ≡ true → IsFoundAt first (entries_in blocks) files

-- Law: what scanning finds is such a trail.
pub record FoundBlocks (total tag first f n : ℕ) (files : Files) : Type 0 where
  pub trail : IsTrailOf total tag first f n (trail_from 10000 total first files) files
  pub fit : AreInGrammar (trail_from 10000 total first files)

abbrev pub FoundAreBlocks : Type 0
FoundAreBlocks = (files : Files) (ps : List Placed) (t : IsScanned files (found ps)) (total tag f n : ℕ) → IsWrittenUpTo total tag t.first f n files → FoundBlocks total tag t.first f n files

-- Law: the entries of its blocks stand at their places.
abbrev pub BlocksAreThere : Type 0
BlocksAreThere = (total tag first f n : ℕ) (blocks : List (List ℕ)) (files : Files) (ps : List Placed) → IsTrailOf total tag first f n blocks files → read_trail total first 1 blocks ≡ whole ps → AreThere files ps

-- Law: blocks that are sealed behind it go on with it.
abbrev pub TrailGoesOn : Type 0
TrailGoesOn = (total tag first f n : ℕ) (blocks more : List (List ℕ)) (old new : Files) → IsTrailOf total tag first f n blocks old → f < 20000 → (g : Grows total tag first f more old new)
    → IsTrailOf total tag first g.file g.count (blocks ++ take g.some more) new

-- Law: it is the same where audit files and dumps are.
abbrev pub TrailIsSame : Type 0
TrailIsSame = (total tag first f n : ℕ) (blocks : List (List ℕ)) (old new : Files) → IsTrailOf total tag first f n blocks old → ((g : ℕ) → 10001 ≤ g → g ≤ 30000 → new g ≡ old g)
    → IsTrailOf total tag first f n blocks new
