-- What RECONSTRUCT does: a field for each promise.
use Rattle.std.specs.Prelude.{ℕ, ◌≡◌, ◌⊎◌, List, Some, codes, IsTrue}
use Rattle.dms_moments.specs.Moments.{Steps}
use Rattle.dms_site.specs.declared.site.Site.{Ghosts}
use Rattle.dms_site.specs.Files.{Files, Same}
use Rattle.dms_opening.specs.Openings.{IsTrailFound}
use Rattle.dms_recovery.specs.Reconstructing.{CanReconstruct, MayMend, RefusesReconstruct}
use Rattle.dms_recovery.specs.Wanting.{last_of}
use Rattle.dms_recovery.specs.declared.wanted.Wanted.TheVariants.{Reconstruct}
use Rattle.dms_recovery.specs.declared.naming.ReconstructFault.{ReconstructFault}
use Rattle.dms_recovery.specs.declared.naming.ReconstructFault.TheVariants as fault
use Rattle.dms_recovery.specs.Refusing.{RecoveryGrows}
use Rattle.dms_guard.specs.Faults.{open_status}
use Rattle.dms_dumping.specs.Filling.{FillsTrail}
use Rattle.dms_guard.specs.Statuses.{IsRefusal}
use Rattle.dms_statelaws.specs.Statements.{ReconstructEnds, ReconstructStands}
use Rattle.dms_statements.specs.declared.statement.NamedRow.{NamedRow}
use Rattle.dms_status.specs.declared.status.NeedFault.TheVariants.{NoSuchRow}
use Rattle.dms_status.specs.declared.status.Status.{Status}
use Rattle.dms_status.specs.declared.status.Status.TheVariants.{Needed}
use Rattle.dms_goback.specs.Restores.{IsOfRestore, IsOfRestoring, StaysFor}
use Rattle.dms_dumping.specs.Preparing.{IsUndone}
use Rattle.dms_status.specs.Saying.{IsSpoken, SaysLine}
use Rattle.dms_dumping.specs.Writing.{point_line}

abbrev pub reconstructed_text : ℕ → List ℕ
reconstructed_text n = point_line (codes "RECONSTRUCTED AT POINT ") n

-- a row isn't there
pub record IsNoRow (status : Status) : Type 0 where
  pub name : List ℕ
  pub row : ℕ
  pub is : status ≡ Needed (NoSuchRow name row)

-- what keeps rows from being reconstructed: what keeps a database from being restored, or a row that isn't there
abbrev pub IsOfMending : Status → Type 0
IsOfMending status = IsOfRestoring status ⊎ IsNoRow status

-- the statuses of RECONSTRUCT
abbrev pub IsOfReconstruct : Status → Type 0
IsOfReconstruct status = IsOfRestore status ⊎ IsNoRow status

-- of a fault of a reconstruction
abbrev pub reconstruct_status : ReconstructFault → Status
reconstruct_status (fault.Open e) = open_status e
reconstruct_status (fault.NoSuchRow r) = Needed (NoSuchRow r.name r.row)

-- What can be done of these files, and each of whose rows is there, is refused by nothing.
abbrev pub NeverRefusesRows : ℕ → List NamedRow → Files → Status → Type 0
NeverRefusesRows d rows files status = (total first : ℕ) → CanReconstruct total first files d rows → IsRefusal status → ⊥

module _ {S : Type 0} (g : Ghosts S) where
  -- It was refused: by this fault, which is the first refusal of the files. No file has changed, and a stop leaves what it could leave before.
  pub record RowsRefused (d : ℕ) (rows : List NamedRow) (old new : S) (status : Status) : Type 0 where
    pub fault : ReconstructFault
    pub is : status ≡ reconstruct_status fault
    pub why : RefusesReconstruct (g.files old) d rows fault
    pub files : g.files new ≡ g.files old
    pub moments : Steps Same (g.clock old) (g.clock new)

  -- so it is at 3, 4 and 9
  abbrev pub AreRowsRefused : ℕ → List NamedRow → S → S → Status → Type 0
  AreRowsRefused d rows old new status = IsRefusal status → RowsRefused d rows old new status

  -- What was said: at status 0 the line, at 10 a prefix of it, else nothing. Its point is the last one.
  pub record SaysReconstructed (old new : S) (status : Status) : Type 0 where
    pub point : ℕ
    pub line : IsTrue g.tells_said → SaysLine status (reconstructed_text point) (g.said old) (g.said new)
    pub is : IsSpoken status → IsTrue g.tells → (total first n : ℕ) → IsTrailFound total first (g.files old) → last_of total first (g.files old) ≡ Some n → point ≡ n

  -- What `RECONSTRUCT name ROW r, .. FROM d` promises of a site before and after it, and of the status.
  pub record ReconstructDoes (d : ℕ) (rows : List NamedRow) (old new : S) (status : Status) : Type 0 where
    -- only the statuses 0, 3, 4 of an opening or of a row, 5, 6, 7, 8 of the audit, 9 of an audit file or a dump, and 10 come
    pub statuses : IsOfReconstruct status
    -- 3, 4 and 9 are the first refusal of the files: that of the trail, of a restore that is pending, of the last point, or of the dump, or the first row
    -- that isn't there. No file has changed, and a stop leaves what it could leave before
    pub refused : IsTrue g.tells → AreRowsRefused d rows old new status
    -- where one of them is there nothing was done: no file has changed, and a stop leaves what it could leave before
    pub opens : IsTrue g.tells → MayMend (g.files old) d rows ⊎ IsUndone g old new status
    -- they don't come where none of them is there
    pub complete : IsTrue g.tells → NeverRefusesRows d rows (g.files old) status
    -- 8 comes only of audit file 9,999, where each file of the trail up to it is full
    pub full : FillsTrail g old new status
    -- at every moment a stop leaves the trail, with the same tag, and blocks after it that hold an entry; the audit files before it stay. At most 38
    -- entries were added
    pub trail : IsTrue g.tells → RecoveryGrows g old new
    -- no file but audit files and the files of structures changes, at any moment: where the files are told, of no more structures than the description names
    -- at the last point, and that at the point of a restore that goes first, or than have a block there
    pub beside : StaysFor g (Reconstruct d) old new
    pub says : SaysReconstructed old new status
    -- Of each database that differs from the files in the named rows alone, and from which that dump was copied: at every moment nothing was done, or the files stand
    -- for its state at its last point, whatever the named rows held. Where a restore is pending over it that one goes first: then it may be that this alone was
    -- being ended, or was ended, and the files stand for that state with the named rows as they count
    pub every_moment : IsTrue g.tells → ReconstructStands g old new d rows
    -- at 0 and 10 they stand for that, and a stop leaves no other files
    pub at_ok : IsSpoken status → IsTrue g.tells → ReconstructEnds g old new d rows
