-- What the file of a dump is found to be.
use Rattle.std.specs.Prelude.{ℕ, ◌+◌, ◌≡◌, ◌==◌, ◌&&◌, nat_lt, nat_le, if◌then◌else◌, Option, Some, None}
use Rattle.std.specs.declared.result.Result.{Result}
use Rattle.std.specs.declared.result.Result.TheVariants.{Ok, Err}
use Rattle.dms_site.specs.Files.{Files}
use Rattle.dms_history.specs.Events.{How}
use Rattle.dms_history.specs.History.{Pending}
use Rattle.dms_dump.specs.Head.{end_of, end_or}
use Rattle.dms_dump.specs.HeadSeen.{head_seen}
use Rattle.dms_dump.specs.Judged.{DumpRead, missing, unsealed, damaged, sealed, dump_read, RefusesDump}
use Rattle.dms_dump.specs.declared.fault.DumpFault.{DumpFault}
use Rattle.dms_dump.specs.declared.reading.DumpHead.{DumpHead}
use Rattle.dms_running.specs.FromDumps.{dump_in}
use Rattle.dms_restore.specs.Planned.{IsFitHead, IsHeadFor}
use Rattle.dms_opening.specs.declared.asked.Asked.{Asked}
use Rattle.dms_opening.specs.declared.asked.Asked.TheVariants as asks
use Rattle.dms_opening.specs.declared.asked.DumpLook.{DumpLook}
use Rattle.dms_opening.specs.declared.asked.DumpLook.TheVariants as looks
use Rattle.dms_opening.specs.declared.dump_looks.DumpFound.{DumpFound}
use Rattle.dms_opening.specs.declared.dump_looks.DumpFound.TheVariants.{Missing, Unsealed, Damaged, Foreign, Sealed}

-- what is looked at of it, for a trail with this tag
abbrev pub look_of : ℕ → DumpRead → DumpLook
look_of tag missing = looks.Missing
look_of tag unsealed = looks.Unsealed
look_of tag damaged = looks.Damaged
look_of tag (sealed h) = if h.tag == tag then looks.Sealed h.point (end_of h) h.audit else looks.Foreign

-- ---- with the head of the dump

-- what is found, for a trail with this tag, is what was read of a file
abbrev pub IsFoundAs : ℕ → DumpRead → DumpFound → Type 0
IsFoundAs tag file Missing = file ≡ missing
IsFoundAs tag file Unsealed = file ≡ unsealed
IsFoundAs tag file Damaged = file ≡ damaged
IsFoundAs tag file Foreign = look_of tag file ≡ looks.Foreign
IsFoundAs tag file (Sealed head) = (file ≡ sealed (head_seen head)) × (head.tag ≡ tag)

-- of a file that is read so, it is found
abbrev pub SaysFound : ℕ → ℕ → DumpRead → Result DumpHead DumpFault → DumpFound → Type 0
SaysFound tag d file (Ok head) found = file ≡ sealed (head_seen head) → IsFoundAs tag file found
SaysFound tag d file (Err fault) found = RefusesDump d file fault → IsFoundAs tag file found

-- what is looked at of it
abbrev pub look_seen : DumpFound → DumpLook
look_seen Missing = looks.Missing
look_seen Unsealed = looks.Unsealed
look_seen Damaged = looks.Damaged
look_seen Foreign = looks.Foreign
look_seen (Sealed head) = looks.Sealed head.point (end_or head.end head.point) head.audit

-- the head that was read
abbrev pub head_found : DumpFound → Option DumpHead
head_found Missing = None
head_found Unsealed = None
head_found Damaged = None
head_found Foreign = None
head_found (Sealed head) = Some head

-- its head fits
abbrev pub IsFitFound : DumpFound → Type 0
IsFitFound Missing = Unit {0}
IsFitFound Unsealed = Unit {0}
IsFitFound Damaged = Unit {0}
IsFitFound Foreign = Unit {0}
IsFitFound (Sealed head) = IsFitHead head

-- a restore by a dump has its head
abbrev pub IsFoundFor : Files → How → DumpFound → Type 0
IsFoundFor files how found = IsHeadFor files how (head_found found)

-- ---- which dump is looked at

-- dump d of these files, from 1 to 9,999; of another number nothing is found
abbrev pub dump_at : Files → ℕ → DumpRead
dump_at files d = if nat_lt 0 d && nat_le d 9999 then dump_read (files (20000 + d)) else missing

abbrev pub dump_numbered : Files → Option ℕ → DumpRead
dump_numbered files None = missing
dump_numbered files (Some d) = dump_at files d

-- that of the restore that is pending; where it goes by the audit none is looked at
abbrev pub dump_begun : Files → Option Pending → DumpRead
dump_begun files pending = dump_numbered files (dump_in pending)

-- that of what is asked
abbrev pub dump_asked : Files → Asked → DumpRead
dump_asked files asks.HaltLoad = missing
dump_asked files (asks.Rollback n) = missing
dump_asked files (asks.Rebuild d n) = dump_at files d
dump_asked files (asks.Reconstruct d) = dump_at files d
