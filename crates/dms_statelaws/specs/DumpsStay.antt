-- Dumps that stay what they are of a database.
use Rattle.std.specs.Prelude.{ℕ, ◌+◌, ◌≤◌, ◌≡◌}
use Rattle.dms_site.specs.Files.{Files}
use Rattle.dms_restore.specs.Dumped.{dumps_of}
use Rattle.dms_run.specs.State.{HasTag}
use Rattle.dms_statelaws.specs.Dumps.{HasCopiedDump, HasDumpAt}
use Rattle.dms_statelaws.specs.Standing.{KeepsPointsTo}

-- The new files have each point of the old ones that isn't above n, as it was, the same tag, and the same file of dump d.
pub record KeepsDumpTo (n d : ℕ) (old new : Files) : Type 0 where
  pub points : KeepsPointsTo n old new
  pub tag : (tag : ℕ) → HasTag old tag → HasTag new tag
  pub file : new (20000 + d) ≡ old (20000 + d)

-- Where dump d was copied from the old files it was copied from the new ones, and where it is true of the old ones, at a point, it is true of the new ones.
pub record DumpStays (d : ℕ) (old new : Files) : Type 0 where
  pub copied : HasCopiedDump old d → HasCopiedDump new d
  pub whole : (n : ℕ) → HasDumpAt old d n → HasDumpAt new d n

-- So it is where its end isn't above n.
abbrev pub DumpsStay : Type 0
DumpsStay = (n d : ℕ) (old new : Files) → KeepsDumpTo n d old new → (dumps_of old d).end ≤ n → DumpStays d old new
