-- The lines that tell how the program ended.
use Rattle.std.specs.Prelude.{ℕ, List, [], ◌∷◌, ◌++◌, codes, decimal}
use Rattle.dasdl_compile.specs.declared.fault.CompileFault.{CompileFault}
use Rattle.dasdl_compile.specs.declared.fault.CompileFault.TheVariants.{Twice, Unknown, KeyItem, CondKind, RecordLong, KeyLong, NoRestart, Embedding, DescriptionLong, Memory as NoRoom}
use Rattle.dasdl_phrases.specs.declared.fault.ParseFault.{ParseFault}
use Rattle.dasdl_phrases.specs.declared.fault.ParseFault.TheVariants.{BadCharacter, Expected, NumberRange, TooMany, Memory as NoSpace}
use Rattle.dms.specs.declared.texts.Ending.{Ending}
use Rattle.dms.specs.declared.texts.Ending.TheVariants.{Command, InUse}
use Rattle.dms_status.specs.declared.status.LimitKind.{LimitKind}
use Rattle.dms_status.specs.declared.status.LimitKind.TheVariants.{AuditFile, Lines, Bytes, Held}
use Rattle.dms_status.specs.declared.status.SchemaFault.{SchemaFault}
use Rattle.dms_status.specs.declared.status.SchemaFault.TheVariants.{Parse, Compile}
use Rattle.dms_status.specs.declared.status.Status.{Status}
use Rattle.dms_status.specs.declared.status.Status.TheVariants.{Ok, BadWords, SchemaRefused, NoDatabase, Needed, DiskFault, InputFault, Memory, Limit, Damaged, SayFault, Exists, BadStatement, Reorganization, BadStream, Diverged, Flaw}
use Rattle.dms_status.specs.declared.status.ReorgFault.{ReorgFault}
use Rattle.dms_status.specs.declared.status.ReorgFault.TheVariants.{AuditTrail, Changed, Required, Duplicate}
use Rattle.dms_status.specs.declared.status.Flaw.{Flaw as Lack}
use Rattle.dms_status.specs.declared.status.Flaw.TheVariants.{Entry, Description, Block, Shape, Record, Member}
use Rattle.dms_status.specs.declared.status.NeedFault.{NeedFault}
use Rattle.dms_status.specs.declared.status.NeedFault.TheVariants.{NoDescription, AuditMissing, AuditUnsealed, AuditForeign, NoSuchPoint, Voided, DumpMissing, DumpUnsealed, DumpForeign, DumpLater, NoSuchRow}

-- words, the number at their place, and words behind it
abbrev pub around_number : List ℕ → ℕ → List ℕ → List ℕ
around_number before n behind = before ++ (decimal n ++ behind)

-- a text that isn't in the schema language, or passes one of its limits
abbrev pub parse_words : ParseFault → List ℕ
parse_words (BadCharacter p) = around_number (codes "bad character at ") p []
parse_words (Expected p) = around_number (codes "unexpected at ") p []
parse_words (NumberRange p) = around_number (codes "number out of range at ") p []
parse_words (TooMany n) = around_number (codes "more than ") n []
parse_words NoSpace = codes "no memory"

-- a check of the compiler that fails
abbrev pub compile_words : CompileFault → List ℕ
compile_words (Twice name) = codes "twice " ++ name
compile_words (Unknown name) = codes "unknown " ++ name
compile_words (KeyItem name) = codes "bad key " ++ name
compile_words (CondKind name) = codes "bad condition " ++ name
compile_words (RecordLong n) = around_number (codes "record of ") n (codes " bytes")
compile_words (KeyLong n) = around_number (codes "key of ") n (codes " bytes")
compile_words NoRestart = codes "no restart data set"
compile_words (Embedding name) = codes "bad place " ++ name
compile_words (DescriptionLong n) = around_number (codes "description of ") n (codes " bytes")
compile_words NoRoom = codes "no memory"

abbrev pub schema_words : SchemaFault → List ℕ
schema_words (Parse fault) = parse_words fault
schema_words (Compile fault) = compile_words fault

abbrev pub limit_words : LimitKind → List ℕ
limit_words (AuditFile k) = around_number (codes "audit file ") k (codes " full")
limit_words Lines = codes "too many lines"
limit_words Bytes = codes "too many bytes"
limit_words Held = codes "too many held lines"

-- a dump whose point is above that of a restore
abbrev pub later_words : ℕ → ℕ → List ℕ
later_words d n = around_number (codes "dump ") d (codes " is at point " ++ decimal n)

-- a row that isn't there
abbrev pub row_words : List ℕ → ℕ → List ℕ
row_words name r = around_number (codes "no row ") r (codes " in " ++ name)

-- what is needed and isn't found
abbrev pub need_words : NeedFault → List ℕ
need_words NoDescription = codes "no description"
need_words (AuditMissing k) = around_number (codes "audit file ") k (codes " missing")
need_words (AuditUnsealed k) = around_number (codes "audit file ") k (codes " unsealed")
need_words (AuditForeign k) = around_number (codes "audit file ") k (codes " of another database")
need_words (NoSuchPoint n) = around_number (codes "no such point ") n []
need_words (Voided n) = around_number (codes "point ") n (codes " voided")
need_words (DumpMissing d) = around_number (codes "dump ") d (codes " missing")
need_words (DumpUnsealed d) = around_number (codes "dump ") d (codes " unsealed")
need_words (DumpForeign d) = around_number (codes "dump ") d (codes " of another database")
need_words (DumpLater d n) = later_words d n
need_words (NoSuchRow name r) = row_words name r

-- why a database isn't reorganized
abbrev pub reorg_words : ReorgFault → List ℕ
reorg_words AuditTrail = codes "audit trail changed"
reorg_words (Changed name) = codes "structure " ++ (name ++ codes " changed")
reorg_words (Required name) = codes "item " ++ (name ++ codes " needs a value")
reorg_words (Duplicate name) = codes "equal keys in " ++ name

-- a block of a file
abbrev pub place_words : ℕ → ℕ → List ℕ
place_words f b = around_number (codes "file ") f (around_number (codes " block ") b [])

-- what keeps a database from standing for a state
abbrev pub flaw_words : Lack → List ℕ
flaw_words (Entry f b e) = around_number (codes "audit entry ") e (codes " of " ++ (place_words f b ++ codes " disagrees"))
flaw_words Description = codes "description disagrees"
flaw_words (Block f b) = place_words f b ++ codes " disagrees"
flaw_words (Shape name) = codes "structure " ++ (name ++ codes " has a bad shape")
flaw_words (Record name r) = around_number (codes "record ") r (codes " of " ++ (name ++ codes " disagrees"))
flaw_words (Member name i) = around_number (codes "entry ") i (codes " of " ++ (name ++ codes " disagrees"))

-- a line of the program, with its line feed
abbrev pub line : List ℕ → List ℕ
line words = codes "dms: " ++ (words ++ (10 ∷ []))

abbrev pub status_lines : Status → List ℕ
status_lines Ok = []
status_lines BadWords = line (codes "bad words") ++ line (codes "see dms --help")
status_lines (SchemaRefused fault) = line (codes "schema: " ++ schema_words fault)
status_lines NoDatabase = line (codes "no database")
status_lines (Needed need) = line (need_words need)
status_lines DiskFault = line (codes "disk fault")
status_lines InputFault = line (codes "input fault")
status_lines Memory = line (codes "no memory")
status_lines (Limit kind) = line (limit_words kind)
status_lines (Damaged f b) = line (place_words f b ++ codes " damaged")
status_lines SayFault = line (codes "output fault")
status_lines Exists = line (codes "exists already")
status_lines (BadStatement p) = line (around_number (codes "bad statement at ") p [])
status_lines (Reorganization why) = line (reorg_words why)
status_lines (BadStream p) = line (around_number (codes "bad stream at ") p [])
status_lines (Diverged f b) = line (codes "diverged at " ++ place_words f b)
status_lines (Flaw flaw) = line (flaw_words flaw)

-- what is said of each ending
abbrev pub lines_of : Ending → List ℕ
lines_of (Command status) = status_lines status
lines_of InUse = line (codes "the folder is in use")
