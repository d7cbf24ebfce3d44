-- What the files of a database tell.
use Rattle.std.specs.Prelude.{ℕ, ◌<◌, ◌≤◌, ◌≡◌, Bool, List}
use Rattle.dms_site.specs.Files.{Files}
use Rattle.dms_history.specs.Pick.{Dumps}
use Rattle.dms_history.specs.Entries.{Entry}

-- how entries and dumps are read from files
pub record Telling : Type 1 where
  -- the trail begins with audit file 1
  pub first : Bool
  -- the entries that the sealed blocks of the audit hold, in order
  pub entries : Files → List Entry
  -- the dumps
  pub dumps : Files → Dumps
  -- that scanning the audit refuses nothing, and finds these entries
  pub found : Files → Type 0
  -- that a dump can be read, is of this database, and names no audit file before the trail
  pub dump_found : Files → ℕ → Type 0

-- Structure files, whose numbers are above 30,000, hold no entries and don't count in scanning, and dumps stand in the files from 20,001 to 30,000 alone.
pub record IsTelling (t : Telling) : Type 0 where
  pub entries_low : (x y : Files) → ((g : ℕ) → g ≤ 30000 → x g ≡ y g) → t.entries x ≡ t.entries y
  pub dumps_between : (x y : Files) → ((g : ℕ) → 20000 < g → g ≤ 30000 → x g ≡ y g) → t.dumps x ≡ t.dumps y
  pub dump_found_low : (x y : Files) (d : ℕ) → ((g : ℕ) → g ≤ 30000 → x g ≡ y g) → t.dump_found y d → t.dump_found x d
  pub found_low : (x y : Files) → ((g : ℕ) → g ≤ 30000 → x g ≡ y g) → t.found y → t.found x
