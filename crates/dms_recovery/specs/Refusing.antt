-- Why a statement is refused, and what it does to the trail.
use Rattle.std.specs.Prelude.{ℕ, ◌+◌, ◌≤◌, ◌≡◌, ◌⊎◌, length, None}
use Rattle.dms_moments.specs.Moments.{Steps}
use Rattle.dms_site.specs.declared.site.Site.{Ghosts}
use Rattle.dms_site.specs.Files.{Files, Same}
use Rattle.dms_audfile.specs.Reads.{Refuses}
use Rattle.dms_audfile.specs.TrailEntries.{trail_entries}
use Rattle.dms_audfile.specs.declared.fault.AudFault.{AudFault}
use Rattle.dms_restore.specs.Logging.{TrailKept, LeavesTrail}
use Rattle.dms_opening.specs.declared.choosing.OpenFault.{OpenFault}
use Rattle.dms_opening.specs.declared.choosing.OpenFault.TheVariants.{Audit}
use Rattle.dms_opening.specs.Behind.{HasNoDescriptionAsked}
use Rattle.dms_opening.specs.Choices.{judge_files}
use Rattle.dms_opening.specs.Openings.{IsTrailFound, IsFullFault}
use Rattle.dms_opening.specs.Plans.{HasNoDescription}
use Rattle.dms_recovery.specs.declared.wanted.Wanted.{Wanted}
use Rattle.dms_recovery.specs.Planned.{RefusesAll}
use Rattle.dms_recovery.specs.Wanting.{asked_for}

-- A trail was found, and so what is wanted of it is refused.
pub record RefusesTrail (files : Files) (wanted : Wanted) (fault : OpenFault) : Type 0 where
  pub total : ℕ
  pub first : ℕ
  pub trail : IsTrailFound total first files
  pub why : RefusesAll total first files (asked_for total first files wanted) fault

-- The first refusal of the trail, or that of what is wanted of it; else a Schema at a point that is no description. A failure of the disk, want of memory
-- and an audit without room say nothing of the files.
abbrev pub RefusesWanted : Files → Wanted → OpenFault → Type 0
RefusesWanted files wanted fault = ((e : AudFault) × (fault ≡ Audit e) × Refuses files e) ⊎ (RefusesTrail files wanted fault ⊎ IsFullFault fault)

-- Scanning refuses nothing in these files, nor is what is wanted of them refused, and there is a description at each point that is gone to.
pub record CanBeDone (total first : ℕ) (files : Files) (wanted : Wanted) : Type 0 where
  pub trail : IsTrailFound total first files
  pub none : judge_files total first files (asked_for total first files wanted) ≡ None
  pub described : HasNoDescription total first files (asked_for total first files wanted) → ⊥
  pub described_own : HasNoDescriptionAsked total first files (asked_for total first files wanted) → ⊥

-- Scanning refuses nothing in these files, nor is what is wanted of them refused.
pub record MayBeDone (files : Files) (wanted : Wanted) : Type 0 where
  pub total : ℕ
  pub first : ℕ
  pub trail : IsTrailFound total first files
  pub none : judge_files total first files (asked_for total first files wanted) ≡ None

-- at most 38 entries were sealed behind those that there were: a Begin, 17 parts of a Schema and a Control, twice
abbrev pub SealsFewTwice : ℕ → ℕ → Files → Files → Type 0
SealsFewTwice total first old new = length (trail_entries total first new) ≤ length (trail_entries total first old) + 38

module _ {S : Type 0} (g : Ghosts S) where
  -- Nothing was done: the files are the same, and a stop leaves what it could leave before.
  pub record StaysUndone (old new : S) : Type 0 where
    pub files : g.files new ≡ g.files old
    pub moments : Steps Same (g.clock old) (g.clock new)

  -- What a statement does to the trail of the files of a site, whatever it answers: the trail is the old one and blocks behind it, each of which is in
  -- its grammar and holds an entry, now and at each stop. At most 38 entries were sealed.
  pub record RecoveryGrows (old new : S) : Type 0 where
    pub kept : (total first : ℕ) → IsTrailFound total first (g.files old) → TrailKept total first (g.files old) (g.files new)
    pub left : (total first : ℕ) → IsTrailFound total first (g.files old) → Steps (LeavesTrail total first) (g.clock old) (g.clock new)
    pub few : (total first : ℕ) → IsTrailFound total first (g.files old) → SealsFewTwice total first (g.files old) (g.files new)
