-- Restores to a point: their statuses, why they are refused, and what is said of them.
use Rattle.std.specs.Prelude.{ℕ, ◌≡◌, ◌≤◌, ◌⊎◌, List, codes, ⊤, IsTrue}
use Rattle.dms_moments.specs.Moments.{Steps}
use Rattle.dms_site.specs.declared.site.Site.{Ghosts}
use Rattle.dms_site.specs.Files.{Files, Same}
use Rattle.dms_opening.specs.declared.choosing.OpenFault.{OpenFault}
use Rattle.dms_recovery.specs.Looked.{GoesWithin}
use Rattle.dms_recovery.specs.Refusing.{CanBeDone, RefusesWanted}
use Rattle.dms_recovery.specs.declared.wanted.Wanted.{Wanted}
use Rattle.dms_status.specs.declared.status.Status.{Status}
use Rattle.dms_status.specs.declared.status.Status.TheVariants.{Ok, BadWords, SchemaRefused, NoDatabase, Needed, InputFault, Memory, Limit, Damaged, SayFault, DiskFault, Exists, BadStatement, Reorganization, BadStream, Diverged, Flaw}
use Rattle.dms_guard.specs.Faults.{open_status}
use Rattle.dms_guard.specs.Guard.{StaysBut}
use Rattle.dms_guard.specs.Statuses.{IsOfOpening, IsRefusal}
use Rattle.dms_dumping.specs.Statuses.{IsOfAudit}
use Rattle.dms_dumping.specs.Writing.{point_line}

-- what is said of a database that was restored to point n
abbrev pub rolled_text : ℕ → List ℕ
rolled_text n = point_line (codes "ROLLED BACK TO POINT ") n

abbrev pub rebuilt_text : ℕ → List ℕ
rebuilt_text n = point_line (codes "REBUILT TO POINT ") n

-- what keeps a database from being restored
abbrev pub IsOfRestoring : Status → Type 0
IsOfRestoring Ok = ⊥
IsOfRestoring BadWords = ⊥
IsOfRestoring (SchemaRefused f) = ⊥
IsOfRestoring NoDatabase = ⊤
IsOfRestoring (Needed n) = IsOfOpening n
IsOfRestoring InputFault = ⊥
IsOfRestoring Memory = ⊤
IsOfRestoring (Limit k) = IsOfAudit k
IsOfRestoring (Damaged f b) = f ≤ 30000
IsOfRestoring SayFault = ⊥
IsOfRestoring DiskFault = ⊤
IsOfRestoring Exists = ⊥
IsOfRestoring (BadStatement p) = ⊥
IsOfRestoring (Reorganization why) = ⊥
IsOfRestoring (BadStream place) = ⊥
IsOfRestoring (Diverged file block) = ⊥
IsOfRestoring (Flaw flaw) = ⊥

-- what is left of a restore that was carried out: that is said, or not
abbrev pub IsOfRestored : Status → Type 0
IsOfRestored Ok = ⊤
IsOfRestored BadWords = ⊥
IsOfRestored (SchemaRefused f) = ⊥
IsOfRestored NoDatabase = ⊥
IsOfRestored (Needed n) = ⊥
IsOfRestored InputFault = ⊥
IsOfRestored Memory = ⊤
IsOfRestored (Limit k) = ⊥
IsOfRestored (Damaged f b) = ⊥
IsOfRestored SayFault = ⊤
IsOfRestored DiskFault = ⊥
IsOfRestored Exists = ⊥
IsOfRestored (BadStatement p) = ⊥
IsOfRestored (Reorganization why) = ⊥
IsOfRestored (BadStream place) = ⊥
IsOfRestored (Diverged file block) = ⊥
IsOfRestored (Flaw flaw) = ⊥

-- the statuses of ROLLBACK and REBUILD
abbrev pub IsOfRestore : Status → Type 0
IsOfRestore Ok = ⊤
IsOfRestore BadWords = ⊥
IsOfRestore (SchemaRefused f) = ⊥
IsOfRestore NoDatabase = ⊤
IsOfRestore (Needed n) = IsOfOpening n
IsOfRestore InputFault = ⊤
IsOfRestore Memory = ⊤
IsOfRestore (Limit k) = IsOfAudit k
IsOfRestore (Damaged f b) = f ≤ 30000
IsOfRestore SayFault = ⊤
IsOfRestore DiskFault = ⊤
IsOfRestore Exists = ⊥
IsOfRestore (BadStatement p) = ⊥
IsOfRestore (Reorganization why) = ⊥
IsOfRestore (BadStream place) = ⊥
IsOfRestore (Diverged file block) = ⊥
IsOfRestore (Flaw flaw) = ⊥

-- What can be done of these files is refused by nothing: their trail is found, neither the point nor the dump is refused, and the Schema at each point
-- that is gone to is a description.
abbrev pub NeverRefusesRestore : Wanted → Files → Status → Type 0
NeverRefusesRestore wanted files status = (total first : ℕ) → CanBeDone total first files wanted → IsRefusal status → ⊥

module _ {S : Type 0} (g : Ghosts S) where
  -- It was refused: by this fault, which is the first refusal of the files. No file has changed, and a stop leaves what it could leave before.
  pub record RefusedFirst (wanted : Wanted) (old new : S) (status : Status) : Type 0 where
    pub fault : OpenFault
    pub is : status ≡ open_status fault
    pub why : RefusesWanted (g.files old) wanted fault
    pub files : g.files new ≡ g.files old
    pub moments : Steps Same (g.clock old) (g.clock new)

  -- so it is at 3, 4 and 9
  abbrev pub IsRestoreRefused : Wanted → S → S → Status → Type 0
  IsRestoreRefused wanted old new status = IsRefusal status → RefusedFirst wanted old new status

  -- No file has changed, at any moment, but audit files and the files of structures: 200 of these in any case, and where the files are told as many as what is
  -- wanted of them needs.
  abbrev pub StaysFor : Wanted → S → S → Type 0
  StaysFor wanted a b = (s : ℕ) → (200 ≤ s) ⊎ (IsTrue g.tells × GoesWithin s wanted (g.files a)) → StaysBut g s a b
