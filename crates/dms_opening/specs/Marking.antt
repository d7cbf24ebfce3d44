-- What stands for blocks that a restore takes from a structure file that hasn't them whole.
use Rattle.std.specs.Prelude.{ℕ, ◌<◌, ◌≡◌, nat_lt, if◌then◌else◌, List, length, replicate}
use Rattle.dms_site.specs.Files.{Files, stored_of}
use Rattle.dms_history.specs.Events.{BlockBytes}
use Rattle.dms_history.specs.History.{Pending}
use Rattle.dms_running.specs.ByHow.{IsKeptBy}
use Rattle.dms_restore.specs.declared.restore_table.RestoreTable.{RestoreTable}
use Rattle.dms_opening.specs.Short.{IsLacking, IsShort}

-- A mark: 1,024 bytes of 255. It spells neither a slot nor a block of a list.
abbrev pub mark : BlockBytes
mark = replicate 1024 255

-- a block as it is stored, and a mark in place of one that isn't there whole
abbrev pub whole_or_mark : BlockBytes → BlockBytes
whole_or_mark bytes = if nat_lt (length bytes) 1024 then mark else bytes

-- Each block of its point that a restore takes from what is stored stands as it did where it was whole, and else as a mark.
abbrev pub KeepsOrMarks : Pending → Files → Files → Type 0
KeepsOrMarks p old new = (f b : ℕ) → IsKeptBy p.how p.entries p.point f b → stored_of new f b ≡ whole_or_mark (stored_of old f b)

-- each block is kept that stood whole
abbrev pub StoodWhole : ℕ → ℕ → Type 0
StoodWhole f b = Unit {0}

-- the block is one of another file, or it stands before this one
abbrev pub IsBefore : ℕ → ℕ → ℕ → ℕ → Type 0
IsBefore file from f b = f ≡ file → b < from

-- each block of a file of n blocks that the restore doesn't write and that wasn't there whole is a mark
abbrev pub MarksIn : Files → RestoreTable → ℕ → ℕ → Files → Type 0
MarksIn old table f n new = (b : ℕ) → b < n → IsLacking old table f b → stored_of new f b ≡ mark

-- so is each one below these counts
abbrev pub MarksShort : Files → List ℕ → RestoreTable → Files → Type 0
MarksShort old counts table new = (f b : ℕ) → IsShort old counts table f b → stored_of new f b ≡ mark
