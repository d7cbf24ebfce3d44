-- The numbers that the program ends with.
use Rattle.std.specs.Prelude.{ℕ}
use Rattle.dms.specs.declared.texts.Ending.{Ending}
use Rattle.dms.specs.declared.texts.Ending.TheVariants.{Command, InUse}
use Rattle.dms_status.specs.declared.status.Status.{Status}
use Rattle.dms_status.specs.declared.status.Status.TheVariants.{Ok, BadWords, SchemaRefused, NoDatabase, Needed, DiskFault, InputFault, Memory, Limit, Damaged, SayFault, Exists, BadStatement, Reorganization, BadStream, Diverged, Flaw}

-- the number of each status
abbrev pub status_number : Status → ℕ
status_number Ok = 0
status_number BadWords = 1
status_number (SchemaRefused f) = 2
status_number NoDatabase = 3
status_number (Needed n) = 4
status_number DiskFault = 5
status_number InputFault = 6
status_number Memory = 7
status_number (Limit l) = 8
status_number (Damaged f b) = 9
status_number SayFault = 10
status_number Exists = 11
status_number (BadStatement p) = 12
status_number (Reorganization why) = 13
status_number (BadStream place) = 14
status_number (Diverged file block) = 15
status_number (Flaw flaw) = 16

-- the number of each ending: a folder in use counts as a fault of the disk
abbrev pub number_of : Ending → ℕ
number_of (Command s) = status_number s
number_of InUse = 5
