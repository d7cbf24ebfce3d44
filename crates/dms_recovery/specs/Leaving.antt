-- What a stop leaves of files while they are restored to a point.
use Rattle.std.specs.Prelude.{ℕ, ◌<◌, ◌≤◌, ◌≡◌, ◌⊎◌, nat_le, if◌then◌else◌, Bool, false, List, [], ◌∷◌, ◌++◌, take, Some}
use Rattle.dms_site.specs.Files.{Files, Left, stored_of}
use Rattle.dms_history.specs.Events.{AllBlocks}
use Rattle.dms_history.specs.Here.{here}
use Rattle.dms_history.specs.History.{Pending}
use Rattle.dms_history.specs.Copied.{IsCopiedDump}
use Rattle.dms_history.specs.EntryEvents.{history_of, live_of}
use Rattle.dms_audfile.specs.TrailEntries.{trail_entries}
use Rattle.dms_running.specs.AnyBegun.{IsUntouched}
use Rattle.dms_running.specs.AnyLaws.{HoldsSame}
use Rattle.dms_running.specs.FirstLaws.{as_counted}
use Rattle.dms_running.specs.FromDumps.{DumpsInOrder}
use Rattle.dms_running.specs.Points.{DescribedPoint, points_of, points_told, next_in}
use Rattle.dms_running.specs.Standing.{IsWhole, Stands}
use Rattle.dms_running.specs.Telling.{Telling}
use Rattle.dms_restore.specs.Dumped.{dumps_of}
use Rattle.dms_restore.specs.Logging.{telling_of}
use Rattle.dms_opening.specs.Openings.{ending_entries}

-- the first points, up to a number
abbrev pub described_to : ℕ → List DescribedPoint → List DescribedPoint
described_to m [] = []
described_to m (p ∷ ps) = if nat_le p.number m then p ∷ described_to m ps else []

-- Files that hold a database, with exactly the points of that one up to point m, each with its content and its Schema, and the same next number.
pub record HoldsUpTo (t : Telling) (u : Files) (m : ℕ) (x : Files) : Type 0 where
  pub whole : IsWhole t x
  pub points_are : points_of t x ≡ described_to m (points_of t u)
  pub next_same : next_in t x ≡ next_in t u

-- A stop leaves a database with all points of these files, or with exactly those up to point m.
abbrev pub RollsTo : Telling → Files → ℕ → Left → Type 0
RollsTo t files m x = HoldsSame t files x.files ⊎ HoldsUpTo t files m x.files

-- A stop leaves the audit, the dumps and the structure files as they were, or a database with exactly the points of that one up to point m.
abbrev pub RestoresTo : Telling → Files → Files → ℕ → Left → Type 0
RestoresTo t files u m x = IsUntouched t files x ⊎ HoldsUpTo t u m x.files

-- A restore was pending in files, and it is being ended: the dumps are as they were, and what was sealed since is at most what ends it. With the named blocks
-- as they count in a database with files u, all else as it is stored, these files hold that database, with all its points and the same next number.
pub record HoldsCounted (t : Telling) (files u : Files) (named : ℕ → ℕ → Bool) (x : Files) : Type 0 where
  pub pending : Pending
  pub was : (history_of (t.entries files)).pending ≡ Some pending
  pub some : ℕ
  pub schema : List ℕ
  pub counts : List ℕ
  pub sealed : t.entries x ≡ t.entries files ++ take some (ending_entries pending.point (next_in t files) schema counts)
  pub dumps_same : (g : ℕ) → 20000 < g → g ≤ 30000 → x g ≡ files g
  pub found : t.found x
  pub base : AllBlocks
  pub stands : Stands t.first (t.entries x) (t.dumps x) base (as_counted (t.dumps u) (t.entries u) named (stored_of u) x)
  pub order : DumpsInOrder (t.dump_found x) (t.dumps x) (history_of (t.entries x)).pending
  pub points : points_told (t.dumps x) (t.entries x) (as_counted (t.dumps u) (t.entries u) named (stored_of u) x) ≡ points_of t u
  pub next_same : next_in t x ≡ next_in t u

-- A stop leaves the audit, the dumps and the structure files as they were, or a database with exactly the points of that one up to point m, or, where a
-- restore was pending, that one's database but for the named blocks.
abbrev pub MendsTo : Telling → Files → Files → (ℕ → ℕ → Bool) → ℕ → Left → Type 0
MendsTo t files u named m x = RestoresTo t files u m x ⊎ HoldsCounted t files u named x.files

-- dump d was copied from a database with these files
abbrev pub HasCopiedDump : ℕ → ℕ → Files → ℕ → Type 0
HasCopiedDump total first u d =
    let es = trail_entries total first u in IsCopiedDump (dumps_of u d) (live_of es) (here (dumps_of u) (history_of es) (stored_of u))

-- These files are those of a database but for structure files, which may hold anything, and dump d was copied from it.
pub record IsRebuiltFrom (total first : ℕ) (files u : Files) (d : ℕ) : Type 0 where
  pub same : (g : ℕ) → g ≤ 30000 → files g ≡ u g
  pub whole : IsWhole (telling_of total first) u
  pub copied_dump : HasCopiedDump total first u d

-- These files are those of a database but for the blocks of some rows, which may hold anything, and dump d was copied from it.
pub record IsMendedFrom (total first : ℕ) (files u : Files) (d : ℕ) (named : ℕ → ℕ → Bool) : Type 0 where
  pub rebuilt : IsRebuiltFrom total first files u d
  pub beside : (f b : ℕ) → named f b ≡ false → stored_of files f b ≡ stored_of u f b
