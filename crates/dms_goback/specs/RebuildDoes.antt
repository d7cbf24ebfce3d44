-- What REBUILD does: a field for each promise.
use Rattle.std.specs.Prelude.{ℕ, ◌≡◌, ◌⊎◌, Option, IsTrue}
use Rattle.dms_site.specs.declared.site.Site.{Ghosts}
use Rattle.dms_opening.specs.Openings.{IsTrailFound}
use Rattle.dms_recovery.specs.Wanting.{chosen_point}
use Rattle.dms_recovery.specs.declared.wanted.Wanted.TheVariants.{Rebuild}
use Rattle.dms_recovery.specs.Refusing.{MayBeDone, RecoveryGrows}
use Rattle.dms_dumping.specs.Filling.{FillsTrail}
use Rattle.dms_statelaws.specs.Statements.{RebuildEnds, RebuildStands}
use Rattle.dms_status.specs.declared.status.Status.{Status}
use Rattle.dms_goback.specs.Restores.{IsOfRestore, IsRestoreRefused, NeverRefusesRestore, StaysFor, rebuilt_text}
use Rattle.dms_dumping.specs.Preparing.{IsUndone}
use Rattle.dms_status.specs.Saying.{IsSpoken, SaysLine}

module _ {S : Type 0} (g : Ghosts S) where
  -- What was said: at status 0 the line, at 10 a prefix of it, else nothing. Its point is the one that is named, else the last one.
  pub record SaysRebuilt (chosen : Option ℕ) (old new : S) (status : Status) : Type 0 where
    pub point : ℕ
    pub line : IsTrue g.tells_said → SaysLine status (rebuilt_text point) (g.said old) (g.said new)
    pub is : IsSpoken status → IsTrue g.tells → (total first : ℕ) → IsTrailFound total first (g.files old) → point ≡ chosen_point total first (g.files old) chosen

  -- What `REBUILD FROM d TO n` and `REBUILD FROM d` promise of a site before and after it, and of the status.
  pub record RebuildDoes (d : ℕ) (chosen : Option ℕ) (old new : S) (status : Status) : Type 0 where
    -- only the statuses 0, 3, 4 of an opening, 5, 6, 7, 8 of the audit, 9 of an audit file or a dump, and 10 come
    pub statuses : IsOfRestore status
    -- 3, 4 and 9 are the first refusal of the files: that of the trail, of the point, or of the dump. No file has changed, and a stop leaves what it
    -- could leave before
    pub refused : IsTrue g.tells → IsRestoreRefused g (Rebuild d chosen) old new status
    -- where one of them is there nothing was done: no file has changed, and a stop leaves what it could leave before
    pub opens : IsTrue g.tells → MayBeDone (g.files old) (Rebuild d chosen) ⊎ IsUndone g old new status
    -- they don't come where none of them is there
    pub complete : IsTrue g.tells → NeverRefusesRestore (Rebuild d chosen) (g.files old) status
    -- 8 comes only of audit file 9,999, where each file of the trail up to it is full
    pub full : FillsTrail g old new status
    -- at every moment a stop leaves the trail, with the same tag, and blocks after it that hold an entry; the audit files before it stay. At most 38
    -- entries were added
    pub trail : IsTrue g.tells → RecoveryGrows g old new
    -- no file but audit files and the files of structures changes, at any moment: where the files are told, of no more structures than the description names
    -- at the chosen point, and that at the point of a restore that goes first, or than have a block there
    pub beside : StaysFor g (Rebuild d chosen) old new
    pub says : SaysRebuilt chosen old new status
    -- Of each database that differs from the files in structure files alone, and from which that dump was copied: at every moment nothing was done, or the
    -- files stand for its state at the chosen point, whatever the structure files held
    pub every_moment : IsTrue g.tells → RebuildStands g old new d chosen
    -- at 0 and 10 they stand for that, and a stop leaves no other files
    pub at_ok : IsSpoken status → IsTrue g.tells → RebuildEnds g old new d chosen
