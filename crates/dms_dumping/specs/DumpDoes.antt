-- What DUMP does: a field for each promise.
use Rattle.std.specs.Prelude.{ℕ, ◌+◌, ◌≡◌, ◌≢◌, ◌⊎◌, IsTrue}
use Rattle.dms_moments.specs.Moments.{Clock, Now, Runs, Steps}
use Rattle.dms_site.specs.declared.site.Site.{Ghosts}
use Rattle.dms_site.specs.Files.{Files, Left}
use Rattle.dms_dump.specs.Stops.{IsShut}
use Rattle.dms_opening.specs.Openings.{OpeningGrows}
use Rattle.dms_run.specs.State.{StateOf}
use Rattle.dms_run.specs.Opens.{DatabaseState}
use Rattle.dms_dumping.specs.Filling.{FillsTrail}
use Rattle.dms_guard.specs.Guard.{HasAtMost, IsBeside}
use Rattle.dms_statelaws.specs.Dumps.{HasDumpAt}
use Rattle.dms_statelaws.specs.Statements.{DumpEnds, DumpStands}
use Rattle.dms_status.specs.declared.status.Status.{Status}
use Rattle.dms_dumping.specs.Preparing.{IsDumpRefused, IsUndone, NeverRefusesDump}
use Rattle.dms_dumping.specs.Refusing.{CanDump}
use Rattle.dms_dumping.specs.Statuses.{IsDumpRefusal, IsOfDump}
use Rattle.dms_status.specs.Saying.{IsSpoken, SaysLine}
use Rattle.dms_dumping.specs.Writing.{dumped_text}

-- file f is as a stop could leave it then
abbrev pub AsLeft : Clock Left → ℕ → Left → Type 0
AsLeft then f x = (y : Left) × Now then y × (x.files f ≡ y.files f)

-- a stop leaves the same of all files but audit files, the first s structure files and dump d
abbrev pub LeavesBesideDump : ℕ → ℕ → Left → Left → Type 0
LeavesBesideDump s d old new = (f : ℕ) → IsBeside s f → f ≢ 20000 + d → new.files f ≡ old.files f

module _ {S : Type 0} (g : Ghosts S) where
  -- No file but audit files, the first s structure files and dump d changed, and a stop left the others as it could leave them before.
  pub record StaysButDump (s d : ℕ) (a b : S) : Type 0 where
    pub read : IsTrue g.tells → (f : ℕ) → IsBeside s f → f ≢ 20000 + d → g.files b f ≡ g.files a f
    pub left : IsTrue g.tells → Steps (LeavesBesideDump s d) (g.clock a) (g.clock b)

  -- So it is of 200 structure files in any case, and of as many as the description names, where the files are told.
  abbrev pub StaysBesideDump : ℕ → S → S → Type 0
  StaysBesideDump d a b = (s : ℕ) → HasAtMost s g.tells (g.files a) → StaysButDump s d a b

  -- A stop leaves dump d as it could be left at entry, or shut (it has at most one byte, or its gate isn't 1), and no more text; or true, at point n.
  abbrev pub LeavesDump : ℕ → ℕ → S → Left → Type 0
  LeavesDump d n old x = ((AsLeft (g.clock old) (20000 + d) x ⊎ IsShut (x.files (20000 + d))) × (IsTrue g.tells_said → x.said ≡ g.said old)) ⊎ HasDumpAt x.files d n

  -- where the files stood for a state, whichever it was
  abbrev pub OfState : S → (DatabaseState → Type 0) → Type 0
  OfState old P = IsTrue g.tells → (s : DatabaseState) → StateOf (g.files old) s.point s.desc s.db → P s

  -- What was said: at status 0 the line of the dump, at 10 a prefix of it, else nothing.
  pub record SaysDump (d : ℕ) (old new : S) (status : Status) : Type 0 where
    pub point : ℕ
    pub line : IsTrue g.tells_said → SaysLine status (dumped_text d point) (g.said old) (g.said new)
    -- the point is that of the state
    pub is : IsSpoken status → OfState old (λ s. point ≡ s.point)

  -- What `DUMP TO d` promises of a site before and after it, and of the status.
  pub record DumpDoes (d : ℕ) (old new : S) (status : Status) : Type 0 where
    -- only the statuses 0, 3, 4 of an opening, 5, 6, 7, 8 of the audit, 9, 10 and 11 come
    pub statuses : IsOfDump status
    -- 3, 4, 9 and 11 are the first refusal of the files: that of the opening, a dump that is there already, a block that can't be dumped. No file has
    -- changed, and a stop leaves what it could leave before
    pub refused : IsDumpRefusal status → IsTrue g.tells → IsDumpRefused g d old new status
    -- where one of them is there nothing was done: no file has changed, and a stop leaves what it could leave before
    pub opens : IsTrue g.tells → CanDump d (g.files old) ⊎ IsUndone g old new status
    -- they don't come where the files hold a database that can be opened, the gate of the dump isn't open and no block is short
    pub complete : IsTrue g.tells → NeverRefusesDump d (g.files old) status
    -- 8 comes only of audit file 9,999, where each file of the trail up to it is full
    pub full : FillsTrail g old new status
    -- where the files stand for a state, at every moment a stop leaves their trail, with the same tag, and blocks after it that hold an entry; the audit
    -- files before it stay. At most 19 entries were added
    pub trail : OfState old (λ s. OpeningGrows g old new)
    -- no file but audit files, the files of structures and that dump changes, at any moment: where the files are told, of no more structures than the
    -- description file names at entry
    pub beside : StaysBesideDump d old new
    pub says : SaysDump d old new status
    -- at every moment the files stand for the state that they stood for, with each point that they had, as it was
    pub every_moment : IsTrue g.tells → DumpStands g old new
    -- and the dump is as it was, or shut, and nothing was printed; or it is whole and true, at the point of that state
    pub dump : OfState old (λ s. Runs (g.clock old) (g.clock new) (LeavesDump d s.point old))
    -- at 0 and 10 it is that, and a stop leaves no other files
    pub at_ok : IsSpoken status → IsTrue g.tells → DumpEnds g old new d
