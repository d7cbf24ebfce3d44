-- Where an audit trail ends, and what a stop leaves while entries are appended to it and sealed.
use Rattle.std.specs.Prelude.{ℕ, ◌+◌, ◌<◌, ◌≤◌, ◌≡◌, ◌==◌, ◌&&◌, ◌||◌, ◌⊎◌, nat_lt, if◌then◌else◌, Bool, IsTrue, List, [], ◌∷◌, ◌++◌, length, take, drop, map, Some}
use Rattle.dms_moments.specs.Moments.{Clock}
use Rattle.dms_site.specs.Files.{Files, Left}
use Rattle.dms_history.specs.Entries.{Entry}
use Rattle.dms_audfile.specs.Blocks.{EntryInBlock, block_entries}
use Rattle.dms_audfile.specs.Gates.{blocks_from}
use Rattle.dms_audfile.specs.Trail.{trail_from}
use Rattle.dms_audfile.specs.BlockLaws.{spellings, block_of, AreNoBegins, IsAlone}
use Rattle.dms_audfile.specs.Sealing.{IsWrittenUpTo, AreSettled}
use Rattle.dms_audfile.specs.Unsealed.{block_with}
use Rattle.dms_audfile.specs.TrailEntries.{trail_entries}
use Rattle.dms_audfile.specs.declared.audit_end.AuditEnd.{AuditEnd}

-- the full blocks that wait
abbrev pub full_blocks : AuditEnd → List (List ℕ)
full_blocks end = blocks_from end.full 0 end.group.items

-- the bytes of the entries in the block that is filled
abbrev pub unsealed_bytes : AuditEnd → List ℕ
unsealed_bytes end = take end.used (drop 2 end.block.items)

-- the blocks of the entries that wait: the full ones, and the one that is filled
abbrev pub waiting_blocks : AuditEnd → List (List ℕ)
waiting_blocks end = full_blocks end ++ block_with (unsealed_bytes end) ∷ []

-- the trail that begins with file `first` is written up to the place that this value says
abbrev pub WritesAt : AuditEnd → ℕ → Files → Type 0
WritesAt end first files = IsWrittenUpTo end.total end.tag first end.file end.count files

-- the entries of a block: a Begin stands alone, there is at least one, and they fit
pub record FillsBlock (es : List Entry) : Type 0 where
  pub kind : AreNoBegins es ⊎ IsAlone es
  pub fits : length (spellings es) ≤ 4094
  pub some : 0 < length es

abbrev pub AllFill : List (List Entry) → Type 0
AllFill [] = Unit {0}
AllFill (es ∷ more) = FillsBlock es × AllFill more

-- those of blocks, in order
abbrev pub all_in : List (List Entry) → List Entry
all_in [] = []
all_in (es ∷ more) = es ++ all_in more

-- These entries wait: those of the full blocks, and then those of the block that is filled.
pub record Waits (end : AuditEnd) (waiting : List Entry) : Type 0 where
  pub before : List (List Entry)
  pub last : List Entry
  pub are : waiting ≡ all_in before ++ last
  pub full : full_blocks end ≡ map block_of before
  pub filled : AllFill before
  pub bytes : unsealed_bytes end ≡ spellings last
  pub kind : AreNoBegins last ⊎ IsAlone last

-- The trail that begins with file `first` ends where this value says, nothing of its files is pending, and these entries wait to be sealed.
pub record EndsAt (end : AuditEnd) (first : ℕ) (waiting : List Entry) (files : Files) (clock : Clock Left) : Type 0 where
  pub low : 10001 ≤ first
  pub writes : IsWrittenUpTo end.total end.tag first end.file end.count files
  pub settled : AreSettled first end.file files clock
  pub waits : Waits end waiting
  pub kind : AreNoBegins waiting ⊎ IsAlone waiting

-- whatever trail ends where this value says, and whichever entries wait, where the site tells its files
abbrev pub AtEnd : AuditEnd → Bool → Files → Clock Left → (ℕ → List Entry → Type 0) → Type 0
AtEnd end tells files clock P = (first : ℕ) (waiting : List Entry) → IsTrue tells → EndsAt end first waiting files clock → P first waiting

-- the same, where no Begin is among the entries that wait
abbrev pub AtPlainEnd : AuditEnd → Bool → Files → Clock Left → (ℕ → List Entry → Type 0) → Type 0
AtPlainEnd end tells files clock P = (first : ℕ) (waiting : List Entry) → IsTrue tells → AreNoBegins waiting → EndsAt end first waiting files clock → P first waiting

-- the entries of the trail are the old ones, and these behind them
abbrev pub GainsEntries : ℕ → ℕ → List Entry → Files → Files → Type 0
GainsEntries total first entries old new = trail_entries total first new ≡ trail_entries total first old ++ entries

-- a block is in its grammar and holds an entry
pub record HoldsAnEntry (block : List ℕ) : Type 0 where
  pub entries : List EntryInBlock
  pub read : block_entries block ≡ Some entries
  pub some : 0 < length entries

abbrev pub AllHoldAnEntry : List (List ℕ) → Type 0
AllHoldAnEntry [] = Unit {0}
AllHoldAnEntry (b ∷ bs) = HoldsAnEntry b × AllHoldAnEntry bs

-- the trail is the old one and some blocks behind it, each of which is in its grammar and holds an entry
pub record Grown (total first : ℕ) (old new : Files) : Type 0 where
  pub made : List (List ℕ)
  pub trail : trail_from 10000 total first new ≡ trail_from 10000 total first old ++ made
  pub filled : AllHoldAnEntry made

-- The entries of the trail are the old ones and the first of some that wait, in blocks behind the old ones each of which is in
-- its grammar and holds an entry. It is again a trail that a writer keeps, with the same number of blocks a file and the same
-- tag, and ends no earlier than before. Only audit files change, none behind the one that follows the file in which it ends,
-- and nothing is printed.
pub record Seals (total tag first : ℕ) (waiting : List Entry) (old new : Left) : Type 0 where
  pub some : ℕ
  pub entries : trail_entries total first new.files ≡ trail_entries total first old.files ++ take some waiting
  pub grown : Grown total first old.files new.files
  pub file : ℕ
  pub count : ℕ
  pub high : file ≤ 20000
  pub writes : IsWrittenUpTo total tag first file count new.files
  pub later : (g m : ℕ) → IsWrittenUpTo total tag first g m old.files → g ≤ file
  pub behind : (g : ℕ) → file + 1 < g → new.files g ≡ old.files g
  pub below : (g : ℕ) → g < first → new.files g ≡ old.files g
  pub above : (g : ℕ) → 20000 < g → new.files g ≡ old.files g
  pub said : new.said ≡ old.said

-- The first of some entries are sealed behind the old ones, the others wait, and the trail ends where this value says. Each of
-- the blocks behind the old ones is in its grammar and holds an entry.
pub record Appends (end : AuditEnd) (first : ℕ) (entries : List Entry) (old new : Files) (clock : Clock Left) : Type 0 where
  pub some : ℕ
  pub sealed : trail_entries end.total first new ≡ trail_entries end.total first old ++ take some entries
  pub grown : Grown end.total first old new
  pub ends : EndsAt end first (drop some entries) new clock
  pub plain : AreNoBegins (drop some entries)

-- All entries that waited are sealed behind the old ones, in blocks each of which is in its grammar and holds an entry, and none
-- waits.
pub record SealsAll (end : AuditEnd) (first : ℕ) (waiting : List Entry) (old new : Files) (clock : Clock Left) : Type 0 where
  pub sealed : trail_entries end.total first new ≡ trail_entries end.total first old ++ waiting
  pub grown : Grown end.total first old new
  pub ends : EndsAt end first [] new clock

-- the file of the block behind the one that is filled
abbrev pub file_behind : AuditEnd → ℕ
file_behind end = if end.count + (end.full + 1) == end.total then end.file + 1 else end.file

-- the file of the next block that is begun, once the entries that wait are sealed
abbrev pub next_file : AuditEnd → ℕ
next_file end = if end.used == 0 then end.file else file_behind end

-- One more block is needed for an entry of that size than the last file that may be written has: none waits, or it can't stand
-- behind those that wait, and that block would be in a file behind that one.
abbrev pub is_past : AuditEnd → ℕ → Bool → Bool
is_past end size alone = ((end.used == 0) || (alone || nat_lt 4094 (end.used + size))) && nat_lt (10000 + end.limit) (next_file end)
