-- Files beside the audit and the structure files are written, as a dump is.
use Rattle.std.specs.Prelude.{◌≡◌}
use Rattle.dms_site.specs.Files.{Files, stored_of}
use Rattle.dms_running.specs.Telling.{Telling}

-- The entries, what scanning finds, and the blocks of structure files are as they were.
pub record StaysDatabase (t : Telling) (old new : Files) : Type 0 where
  pub entries_same : t.entries new ≡ t.entries old
  pub found : t.found old → t.found new
  pub blocks_same : stored_of new ≡ stored_of old
