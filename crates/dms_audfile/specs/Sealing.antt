-- What a writer knows of the trail, and what a stop leaves while a block is sealed.
use Rattle.std.specs.Prelude.{ℕ, ◌+◌, ◌-◌, ◌*◌, ◌<◌, ◌≤◌, ◌≡◌, ◌≢◌, Bool, true, IsTrue, List, ◌++◌, length, take}
use Rattle.dms_moments.specs.Moments.{Clock, Steps}
use Rattle.dms_site.specs.Files.{Files, Left, InFile, OnlyIn, Only, Torn}
use Rattle.dms_audfile.specs.Gates.{block_at, blocks_from, gate, sealed_blocks, is_full}
use Rattle.dms_audfile.specs.Header.{header_fits, tag_said}
use Rattle.dms_audfile.specs.Trail.{trail_from}

-- n blocks of a file of `total` are sealed, the other gates are closed, and the file goes on to the place of the next block
pub record IsSealedUpTo (total n : ℕ) (file : List ℕ) : Type 0 where
  pub enough : n ≤ total
  pub few : total ≤ 512
  pub is_open : (i : ℕ) → 1 ≤ i → i ≤ n → gate i file ≡ 1
  pub is_closed : (i : ℕ) → n < i → i ≤ total → gate i file ≢ 1
  pub long : 4096 * (n + 1) ≤ length file

-- the sealed blocks of one file are the old ones and the first k of some; the other files are as they were
pub record Sealed (total f : ℕ) (blocks : List (List ℕ)) (old new : Files) : Type 0 where
  pub some : ℕ
  pub within : some ≤ length blocks
  pub here : sealed_blocks total (new f) ≡ sealed_blocks total (old f) ++ take some blocks
  pub others : (g : ℕ) → g ≢ f → new g ≡ old g

pub record SealsBlocks (total f : ℕ) (blocks : List (List ℕ)) (old new : Left) : Type 0 where
  pub files : Sealed total f blocks old.files new.files
  pub said : new.said ≡ old.said

-- The trail from file `first` on is written in file f, of whose blocks n are sealed; all files before it are full, and it isn't.
pub record IsWrittenUpTo (total tag first f n : ℕ) (files : Files) : Type 0 where
  pub order : first ≤ f
  pub some : 8 ≤ total
  pub not_full : n < total
  pub full : (g : ℕ) → first ≤ g → g < f → is_full total (files g) ≡ true
  pub stands : IsSealedUpTo total n (files f)
  pub fits : (g : ℕ) → first ≤ g → g ≤ f → header_fits (g - 10000) total (files g) ≡ true
  pub tags : (g : ℕ) → first ≤ g → g ≤ f → tag_said (files g) ≡ tag

-- whatever trail is written up to block n of file f, where the site tells its files
abbrev pub AtWritten : Bool → ℕ → ℕ → ℕ → ℕ → Files → (ℕ → Type 0) → Type 0
AtWritten tells total tag f n files P = (first : ℕ) → IsTrue tells → IsWrittenUpTo total tag first f n files → P first

-- the trail is written up to block n of file f, or, where these are all its blocks, up to the header of the next file
abbrev pub IsWrittenBehind : ℕ → ℕ → ℕ → ℕ → ℕ → Files → Type 0
IsWrittenBehind total tag first f n files = (n ≢ total → IsWrittenUpTo total tag first f n files) × (n ≡ total → IsWrittenUpTo total tag first (f + 1) 0 files)

-- Whatever trail was written up to block n of file f, where the site tells its files: it is now the old one, and these blocks behind it.
abbrev pub GainsBlocks : Bool → ℕ → ℕ → ℕ → ℕ → List (List ℕ) → Files → Files → Type 0
GainsBlocks tells total tag f n blocks old new = (first m : ℕ) → IsTrue tells → IsWrittenUpTo total tag first f n old → f < first + m
    → trail_from m total first new ≡ trail_from m total first old ++ blocks

-- The trail is the old one and the first k of some blocks. No file changes but f and the one behind it.
pub record Grows (total tag first f : ℕ) (blocks : List (List ℕ)) (old new : Files) : Type 0 where
  pub some : ℕ
  pub within : some ≤ length blocks
  pub trail : (n : ℕ) → f < first + n → trail_from n total first new ≡ trail_from n total first old ++ take some blocks
  pub others : (g : ℕ) → g ≢ f → g ≢ f + 1 → new g ≡ old g
  -- it is again one that a writer keeps, who is at that file, with so many of its blocks sealed
  pub file : ℕ
  pub count : ℕ
  pub writes : IsWrittenUpTo total tag first file count new
  pub low : f ≤ file
  pub high : file ≤ f + 1

pub record GrowsLeft (total tag first f : ℕ) (blocks : List (List ℕ)) (old new : Left) : Type 0 where
  pub files : Grows total tag first f blocks old.files new.files
  pub said : new.said ≡ old.said

-- nothing of these audit files is pending
abbrev pub AreSettled : ℕ → ℕ → Files → Clock Left → Type 0
AreSettled first last files clock = (g : ℕ) → first ≤ g → g ≤ last → OnlyIn g files clock

-- Whatever trail was written up to block n of file f, where the site tells its files and nothing of the trail's was pending: each stop leaves
-- the old one, and the first of these blocks behind it.
abbrev pub LeavesBlocks : Bool → ℕ → ℕ → ℕ → ℕ → List (List ℕ) → Files → Clock Left → Clock Left → Type 0
LeavesBlocks tells total tag f n blocks files began clock = (first : ℕ) → IsTrue tells → IsWrittenUpTo total tag first f n files → AreSettled first f files began
    → Steps (GrowsLeft total tag first f blocks) began clock

-- whatever becomes of a file
abbrev pub Anyhow : List ℕ → List ℕ → Type 0
Anyhow old new = Unit {0}

-- ---- a group of blocks

-- The contents of m blocks are written behind the first n of file f, and nothing before them changes.
pub record WritesBlocks (f n m : ℕ) (contents : List ℕ) (old new : Files) : Type 0 where
  pub step : InFile f (Torn (4096 * (n + 1)) (4096 * m)) old new
  pub blocks : 4096 * (n + 1) ≤ length (old f) → (j : ℕ) → j < m → block_at (n + 1 + j) (new f) ≡ block_at j contents
  pub long : 4096 * (n + 1) ≤ length (old f) → 4096 * (n + m + 1) ≤ length (new f)

-- The gates of m blocks behind the first n of file f may be opened: the file goes on behind them, and where the last of them is its last one the
-- next file has a header with closed gates.
pub record MayOpen (total tag f n m : ℕ) (files : Files) : Type 0 where
  pub within : n + m ≤ total
  pub long : 4096 * (n + m + 1) ≤ length (files f)
  pub next : n + m ≡ total → IsSealedUpTo total 0 (files (f + 1))
  pub head : n + m ≡ total → header_fits (f + 1 - 10000) total (files (f + 1)) ≡ true
  pub mark : n + m ≡ total → tag_said (files (f + 1)) ≡ tag

-- Whatever trail is written up to block n of file f, where the site tells its files and the gates of the next m blocks may be opened.
abbrev pub AtGates : Bool → ℕ → ℕ → ℕ → Files → (ℕ → ℕ → ℕ → Type 0) → Type 0
AtGates tells f n m files P = (total tag first : ℕ) → IsTrue tells → IsWrittenUpTo total tag first f n files → MayOpen total tag f n m files → P total tag first

-- So it is, and nothing was pending: each stop leaves the old trail, and the first of the blocks behind those gates.
abbrev pub LeavesOpened : Bool → ℕ → ℕ → ℕ → Files → Clock Left → Clock Left → Type 0
LeavesOpened tells f n m files began clock = AtGates tells f n m files (λ total tag first. Only files began → Steps (GrowsLeft total tag first f (blocks_from m (n + 1) (files f))) began clock)

-- The next k blocks behind the first n of file f are sealed, and nothing but their gates changes.
pub record Opens (total tag first f n k : ℕ) (old new : Files) : Type 0 where
  pub trail : (r : ℕ) → f < first + r → trail_from r total first new ≡ trail_from r total first old ++ blocks_from k (n + 1) (old f)
  pub writes : IsWrittenBehind total tag first f (n + k) new
  pub same : (j : ℕ) → 1 ≤ j → 4096 * (j + 1) ≤ length (old f) → block_at j (new f) ≡ block_at j (old f)
  pub long : length (old f) ≤ length (new f)
  pub others : (g : ℕ) → g ≢ f → new g ≡ old g
