-- Whether a dump is refused.
use Rattle.std.specs.Prelude.{ℕ, ◌≡◌}
use Rattle.dms_moments.specs.Moments.{Steps}
use Rattle.dms_site.specs.declared.site.Site.{Ghosts}
use Rattle.dms_site.specs.Files.{Files, Same}
use Rattle.dms_opening.specs.Openings.{IsOpenable}
use Rattle.dms_status.specs.declared.status.Status.{Status}
use Rattle.dms_dumping.specs.Refusing.{IsOpenDump, RefusesDump, refusal_status}
use Rattle.dms_status.specs.Saying.{IsSpoken}
use Rattle.dms_dumping.specs.Statuses.{IsDumpRefusal}
use Rattle.dms_dumping.specs.declared.looking.DumpRefusal.{DumpRefusal}

module _ {S : Type 0} (g : Ghosts S) where
  -- Dump d was refused: by this refusal, which is the first one of the files. No file has changed, and a stop leaves what it could leave before.
  pub record IsDumpRefused (d : ℕ) (old new : S) (status : Status) : Type 0 where
    pub refusal : DumpRefusal
    pub is : status ≡ refusal_status refusal
    pub why : RefusesDump d (g.files old) refusal
    pub files : g.files new ≡ g.files old
    pub moments : Steps Same (g.clock old) (g.clock new)

module _ {S : Type 0} (g : Ghosts S) where
  -- Nothing was done: no file has changed, a stop leaves what it could leave before, and it isn't said that it was done.
  pub record IsUndone (old new : S) (status : Status) : Type 0 where
    pub unmade : IsSpoken status → ⊥
    pub files : g.files new ≡ g.files old
    pub moments : Steps Same (g.clock old) (g.clock new)

-- Files that hold a database, whose last point is live and described, are refused by nothing, where the gate of the dump isn't open.
abbrev pub NeverRefusesDump : ℕ → Files → Status → Type 0
NeverRefusesDump d files status = (total first : ℕ) → IsOpenable total first files → (IsOpenDump d files → ⊥) → IsDumpRefusal status → ⊥
