-- What ROLLBACK does: a field for each promise.
use Rattle.std.specs.Prelude.{ℕ, ◌⊎◌, IsTrue}
use Rattle.dms_site.specs.declared.site.Site.{Ghosts}
use Rattle.dms_recovery.specs.declared.wanted.Wanted.TheVariants.{Rollback}
use Rattle.dms_recovery.specs.Refusing.{MayBeDone, RecoveryGrows}
use Rattle.dms_dumping.specs.Filling.{FillsTrail}
use Rattle.dms_statelaws.specs.Statements.{RollbackEnds, RollbackStands}
use Rattle.dms_status.specs.declared.status.Status.{Status}
use Rattle.dms_goback.specs.Restores.{IsOfRestore, IsRestoreRefused, NeverRefusesRestore, StaysFor, rolled_text}
use Rattle.dms_dumping.specs.Preparing.{IsUndone}
use Rattle.dms_status.specs.Saying.{IsSpoken, SaysLine}

module _ {S : Type 0} (g : Ghosts S) where
  -- What `ROLLBACK TO n` promises of a site before and after it, and of the status.
  pub record RollbackDoes (n : ℕ) (old new : S) (status : Status) : Type 0 where
    -- only the statuses 0, 3, 4 of an opening, 5, 6, 7, 8 of the audit, 9 of an audit file or a dump, and 10 come
    pub statuses : IsOfRestore status
    -- 3, 4 and 9 are the first refusal of the files: that of the trail, of a restore that is pending, or of the point. No file has changed, and a stop
    -- leaves what it could leave before
    pub refused : IsTrue g.tells → IsRestoreRefused g (Rollback n) old new status
    -- where one of them is there nothing was done: no file has changed, and a stop leaves what it could leave before
    pub opens : IsTrue g.tells → MayBeDone (g.files old) (Rollback n) ⊎ IsUndone g old new status
    -- they don't come where none of them is there
    pub complete : IsTrue g.tells → NeverRefusesRestore (Rollback n) (g.files old) status
    -- 8 comes only of audit file 9,999, where each file of the trail up to it is full
    pub full : FillsTrail g old new status
    -- at every moment a stop leaves the trail, with the same tag, and blocks after it that hold an entry; the audit files before it stay. At most 38
    -- entries were added
    pub trail : IsTrue g.tells → RecoveryGrows g old new
    -- no file but audit files and the files of structures changes, at any moment: where the files are told, of no more structures than the description names
    -- at point n, and that at the point of a restore that goes first, or than have a block there
    pub beside : StaysFor g (Rollback n) old new
    -- at status 0 the line is said, at 10 a prefix of it, else nothing
    pub says : IsTrue g.tells_said → SaysLine status (rolled_text n) (g.said old) (g.said new)
    -- at every moment the files stand for the state that they stood for, or for that of point n
    pub every_moment : IsTrue g.tells → RollbackStands g old new n
    -- at 0 and 10 they stand for that of point n, and a stop leaves no other files
    pub at_ok : IsSpoken status → IsTrue g.tells → RollbackEnds g old new n
