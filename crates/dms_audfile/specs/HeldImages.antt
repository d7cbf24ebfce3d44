-- Images of one block among entries.
use Rattle.std.specs.Prelude.{ℕ, ◌||◌, Bool, false, List, map, Option, Some, None}
use Rattle.dms_history.specs.Entries.{Entry, schema_part, image, byte_range, quiet_point, control_point, begin_restore}
use Rattle.dms_history.specs.Images.{is_at}
use Rattle.dms_history.specs.Lists.{has}
use Rattle.dms_audfile.specs.Blocks.{EntryInBlock}
use Rattle.dms_audfile.specs.TrailEntries.{entry_of}

-- the entry is an Image of block b of file f
abbrev pub names_image : ℕ → ℕ → Entry → Bool
names_image f b (schema_part part parts bytes) = false
names_image f b (image g k before after) = is_at f b g k
names_image f b (byte_range g k place bytes) = false
names_image f b (quiet_point n) = false
names_image f b (control_point n next counts) = false
names_image f b (begin_restore n kind) = false

-- one was found, or is among these entries; nothing holds where they aren't whole
abbrev pub holds_on : ℕ → ℕ → Bool → Option (List EntryInBlock) → Bool
holds_on f b found None = false
holds_on f b found (Some es) = found || has (names_image f b) (map entry_of es)
