-- Databases that differ in structure files alone, and their dumps.
use Rattle.std.specs.Prelude.{ℕ, ◌+◌, ◌≤◌, ◌≡◌, Bool, false, List}
use Rattle.dms_site.specs.Files.{Files, stored_of}
use Rattle.dms_history.specs.Entries.{Entry}
use Rattle.dms_history.specs.EntryEvents.{history_of, live_of}
use Rattle.dms_history.specs.Here.{here}
use Rattle.dms_history.specs.Copied.{IsCopiedDump}
use Rattle.dms_history.specs.Restores.{IsTrueDump}
use Rattle.dms_audfile.specs.Header.{tag_said}
use Rattle.dms_audfile.specs.ScanLaws.{IsFoundWith}
use Rattle.dms_dump.specs.Head.{Head}
use Rattle.dms_dump.specs.Judged.{dump_read, sealed}
use Rattle.dms_restore.specs.Dumped.{dumps_of}

-- Two databases that are the same but for structure files, whose numbers are above 30,000.
abbrev pub SameBesideBlocks : Files → Files → Type 0
SameBesideBlocks files u = (g : ℕ) → g ≤ 30000 → files g ≡ u g

-- So they are, and all blocks but the named ones are the same.
pub record SameBesideNamed (named : ℕ → ℕ → Bool) (files u : Files) : Type 0 where
  pub files_same : SameBesideBlocks files u
  pub blocks_same : (f b : ℕ) → named f b ≡ false → stored_of files f b ≡ stored_of u f b

-- Dump d, from 1 to 9,999, is whole, has the tag of the trail, and was copied from this database: its point and its end are live, and each of its blocks
-- is as it was at a live point from the one to the other.
pub record HasCopiedDump (files : Files) (d : ℕ) : Type 0 where
  pub some : 1 ≤ d
  pub few : d ≤ 9999
  pub head : Head
  pub read : dump_read (files (20000 + d)) ≡ sealed head
  pub entries : List Entry
  pub finds : IsFoundWith entries files
  pub tag_is : head.tag ≡ tag_said (files finds.trail.first)
  pub is_copied : IsCopiedDump (dumps_of files d) (live_of entries) (here (dumps_of files) (history_of entries) (stored_of files))

-- It is, its point is this one, and so is each of its blocks.
pub record HasDumpAt (files : Files) (d n : ℕ) : Type 0 where
  pub has : HasCopiedDump files d
  pub is_true : IsTrueDump (dumps_of files d) (live_of has.entries) (here (dumps_of files) (history_of has.entries) (stored_of files))
  pub point_is : (dumps_of files d).point ≡ n

-- It is, its point is one and its end another.
pub record HasDumpFrom (files : Files) (d n m : ℕ) : Type 0 where
  pub has : HasCopiedDump files d
  pub point_is : (dumps_of files d).point ≡ n
  pub end_is : (dumps_of files d).end ≡ m
