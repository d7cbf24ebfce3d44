-- The blocks of some rows, and from which place on the changes of a block name it.
use Rattle.std.specs.Prelude.{ℕ, nat_le, if◌then◌else◌, Bool, false, List}
use Rattle.dms_history.specs.Entries.{named_by}
use Rattle.dms_history.specs.declared.event.Row.{Row}
use Rattle.dms_restore.specs.declared.live.LiveEntry.{LiveEntry}
use Rattle.dms_restore.specs.declared.live.LiveEntry.TheVariants.{Changed, Ranged, Quiet, Controlled}

-- the entry is an Image or a Range of a block of the rows
abbrev pub is_of_rows : List Row → LiveEntry → Bool
is_of_rows rows (Changed i) = named_by rows i.file i.block
is_of_rows rows (Ranged r) = named_by rows r.file r.block
is_of_rows rows (Quiet n) = false
is_of_rows rows (Controlled c) = false

-- the place, which is another one for a block of the rows
abbrev pub place_from : List Row → ℕ → ℕ → ℕ → ℕ → ℕ
place_from rows of_rows of_others f b = if named_by rows f b then of_rows else of_others

-- the entry, before which so many stand, names the block that it changes
abbrev pub is_naming : List Row → ℕ → ℕ → ℕ → LiveEntry → Bool
is_naming rows of_rows of_others i (Changed c) = nat_le (place_from rows of_rows of_others c.file c.block) i
is_naming rows of_rows of_others i (Ranged r) = nat_le (place_from rows of_rows of_others r.file r.block) i
is_naming rows of_rows of_others i (Quiet n) = false
is_naming rows of_rows of_others i (Controlled c) = false
