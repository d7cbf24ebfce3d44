-- Laws: a copy is found by scanning, and stays one while its blocks are settled.
use Rattle.std.specs.Prelude.{ℕ, ◌<◌, ◌≡◌, true, List}
use Rattle.dms_site.specs.Files.{Files, stored_of}
use Rattle.dms_history.specs.Pick.{Dumps, count_at}
use Rattle.dms_history.specs.EntryEvents.{live_of, Agrees}
use Rattle.dms_running.specs.ByHow.{IsKeptBy, StandsAsToldBy}
use Rattle.dms_running.specs.Restoring.{Rewritten}
use Rattle.dms_audfile.specs.Database.{HasDatabase}
use Rattle.dms_audfile.specs.TrailEntries.{entries_in}
use Rattle.dms_audfile.specs.WholeSchema.{holds_schema}
use Rattle.dms_audfile.specs.Copies.{AreInGrammar, IsFoundAt}
use Rattle.dms_follow.specs.Following.{AllWhole}
use Rattle.dms_follow.specs.Laws.{MaySettle, settler, StandsAll}
use Rattle.dms_remote.specs.Copy.{IsCopyOf}

-- Scanning finds the entries of its blocks, and they agree from file 1 on, whatever dumps are there.
pub record IsFoundCopy (blocks : List (List ℕ)) (files : Files) : Type 0 where
  pub found : IsFoundAt 10001 (entries_in blocks) files
  pub agrees : (dumps : Dumps) → Agrees true (entries_in blocks) dumps (stored_of files)

-- So it is where the gate of its database is open and a whole Schema with its Control is among the entries.
abbrev pub CopyIsFound : Type 0
CopyIsFound = (total tag : ℕ) (head : List ℕ) (blocks : List (List ℕ)) (files : Files) → IsCopyOf total tag head blocks files → AreInGrammar blocks → HasDatabase head → holds_schema (entries_in blocks) ≡ true
    → IsFoundCopy blocks files

-- Each moment of a restore that settles its blocks leaves the same copy.
abbrev pub CopyStays : Type 0
CopyStays = (total tag n : ℕ) (head : List ℕ) (blocks : List (List ℕ)) (old new : Files) → IsCopyOf total tag head blocks old → MaySettle (entries_in blocks) n → AllWhole (live_of (entries_in blocks))
    → Rewritten (IsKeptBy (settler (entries_in blocks) n).how (settler (entries_in blocks) n).entries (settler (entries_in blocks) n).point) old new → IsCopyOf total tag head blocks new

-- Once it has written all, all blocks stand.
abbrev pub CopySettles : Type 0
CopySettles = (total tag n : ℕ) (head : List ℕ) (blocks : List (List ℕ)) (dumps : Dumps) (old new : Files) → IsCopyOf total tag head blocks old → MaySettle (entries_in blocks) n → AllWhole (live_of (entries_in blocks))
    → Rewritten (IsKeptBy (settler (entries_in blocks) n).how (settler (entries_in blocks) n).entries (settler (entries_in blocks) n).point) old new
    → ((f b : ℕ) → b < count_at (settler (entries_in blocks) n).entries (settler (entries_in blocks) n).point f
    → StandsAsToldBy (settler (entries_in blocks) n).how dumps (settler (entries_in blocks) n).entries (settler (entries_in blocks) n).point new f b)
    → StandsAll (entries_in blocks) (stored_of new)
