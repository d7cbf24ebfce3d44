-- Files by number, what the calls of a site do to them, and what a stop may leave of them.
use Rattle.std.specs.Prelude.{ℕ, ◌+◌, ◌-◌, ◌*◌, ◌<◌, ◌≤◌, nat_lt, max, ◌≡◌, ◌≢◌, ◌⊎◌, ◌==◌, if◌then◌else◌, List, [], ◌++◌, length, take, drop, replicate, slice_index}
use Rattle.dms_moments.specs.Moments.{Clock, Now}

-- the bytes of each file; a file that doesn't exist has none
abbrev pub Files : Type 0
Files = ℕ → List ℕ

-- what a stop leaves: the files, and the text that was printed
pub record Left : Type 0 where
  pub files : Files
  pub said : List ℕ

-- one file has other bytes
unfoldable pub with_file : Files → ℕ → List ℕ → Files
with_file files f bytes = λ g. if g == f then bytes else files g

-- n bytes from an offset on, fewer where the file ends before
unfoldable pub range : ℕ → ℕ → List ℕ → List ℕ
range at n file = take n (drop at file)

-- What the files hold as block b of structure file f: its 1,024 bytes, fewer where the file ends before. The numbers of
-- structure files are above 30,000; other files hold no blocks.
unfoldable pub stored_of : Files → ℕ → ℕ → List ℕ
stored_of files f b = if nat_lt 30000 f then range (1024 * b) 1024 (files f) else []

-- with zeros at the end up to a length
unfoldable pub pad_zeros : List ℕ → ℕ → List ℕ
pad_zeros file len = file ++ replicate (len - length file) 0

-- these bytes over what was there, from an offset on; a gap before them is filled with zeros
unfoldable pub overlay_bytes : ℕ → List ℕ → List ℕ → List ℕ
overlay_bytes at bytes file = take at (pad_zeros file at) ++ bytes ++ drop (at + length bytes) file

-- one file may be changed by step, the others are the same
pub record InFile (f : ℕ) (step : List ℕ → List ℕ → Type 0) (old new : Files) : Type 0 where
  pub here : step (old f) (new f)
  pub others : (g : ℕ) → g ≢ f → new g ≡ old g

-- What a write of n bytes may make of a file, whole or cut short or with other bytes:
-- the length is between the old one and that of the whole write, and each byte below the old end and outside the range stays.
pub record Torn (at n : ℕ) (old new : List ℕ) : Type 0 where
  pub no_shorter : length old ≤ length new
  pub no_longer : length new ≤ max (length old) (at + n)
  pub below : (i : ℕ) → i < length old → i < at → slice_index new i ≡ slice_index old i
  pub above : (i : ℕ) → i < length old → at + n ≤ i → slice_index new i ≡ slice_index old i

-- a cut happened or not; a cut to a greater length does nothing
abbrev pub Cut : ℕ → List ℕ → List ℕ → Type 0
Cut len old new = (new ≡ old) ⊎ (new ≡ take len old)

-- a step on one file, with nothing printed
pub record OnDisk (f : ℕ) (step : List ℕ → List ℕ → Type 0) (old new : Left) : Type 0 where
  pub files : InFile f step old.files new.files
  pub said : new.said ≡ old.said

-- some of these bytes were printed, from the first on, and the files stay
pub record PrintsPartOf (bytes : List ℕ) (old new : Left) : Type 0 where
  pub files : new.files ≡ old.files
  pub some : ℕ
  pub said : new.said ≡ old.said ++ take some bytes

-- nothing changed
abbrev pub Same : Left → Left → Type 0
Same old new = new ≡ old

-- a stop now leaves these files and no others
abbrev pub Only : Files → Clock Left → Type 0
Only files clock = (x : Left) → Now clock x → x.files ≡ files

-- a stop now leaves that one file as it is in these files
abbrev pub OnlyIn : ℕ → Files → Clock Left → Type 0
OnlyIn f files clock = (x : Left) → Now clock x → x.files f ≡ files f

-- The greatest number of a present file from start to upto, or 0 where none is present there. A file is present where its length isn't 0.
pub record IsLastPresent (files : Files) (start upto found : ℕ) : Type 0 where
  pub absent : (g : ℕ) → start ≤ g → g ≤ upto → found < g → files g ≡ []
  pub present : 0 < found → (start ≤ found) × (found ≤ upto) × (0 < length (files found))
