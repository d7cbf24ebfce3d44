-- Why a dump isn't made.
use Rattle.std.specs.Prelude.{ℕ, ◌+◌, ◌≡◌, ◌≢◌, ◌⊎◌, IsTrue, slice_index}
use Rattle.dms_moments.specs.Moments.{Steps}
use Rattle.dms_site.specs.declared.site.Site.{Ghosts}
use Rattle.dms_site.specs.Files.{Files, Same}
use Rattle.dms_audfile.specs.declared.fault.AudFault.TheVariants as aud
use Rattle.dms_opening.specs.declared.choosing.OpenFault.{OpenFault}
use Rattle.dms_opening.specs.declared.choosing.OpenFault.TheVariants.{Audit}
use Rattle.dms_opening.specs.declared.plan.OpeningPlan.{OpeningPlan}
use Rattle.dms_opening.specs.Openings.{RefusesFiles}
use Rattle.dms_opening.specs.Plans.{IsPlainFault}
use Rattle.dms_status.specs.declared.status.Status.{Status}
use Rattle.dms_status.specs.declared.status.Status.TheVariants as status
use Rattle.dms_guard.specs.Faults.{open_status}
use Rattle.dms_opening.specs.Short.{IsFirstShort, IsPlannable, IsShortOf, NoneShort}
use Rattle.dms_dumping.specs.declared.looking.DumpRefusal.{DumpRefusal}
use Rattle.dms_dumping.specs.declared.looking.DumpRefusal.TheVariants.{Open, Exists, Short}

-- the gate of dump d is open
abbrev pub IsOpenDump : ℕ → Files → Type 0
IsOpenDump d files = slice_index (files (20000 + d)) 0 ≡ 1

abbrev pub refusal_status : DumpRefusal → Status
refusal_status (Open fault) = open_status fault
refusal_status Exists = status.Exists
refusal_status (Short f b) = status.Damaged f b

-- what is judged behind the opening that is planned
abbrev pub JudgesDump : ℕ → Files → OpeningPlan → DumpRefusal → Type 0
JudgesDump d files plan (Open fault) = IsPlainFault fault
JudgesDump d files plan Exists = IsOpenDump d files
JudgesDump d files plan (Short f b) = (IsOpenDump d files → ⊥) × IsFirstShort files plan.counts.items plan.table f b

-- The first refusal of dump d: that of an opening; else the gate of the dump is open; else the first block that the opening doesn't write and
-- that its structure file doesn't hold whole. A failed call and want of memory say nothing.
abbrev pub RefusesDump : ℕ → Files → DumpRefusal → Type 0
RefusesDump d files (Open fault) = RefusesFiles files fault
RefusesDump d files Exists = IsPlannable files × IsOpenDump d files
RefusesDump d files (Short f b) = (IsOpenDump d files → ⊥) × IsShortOf files f b

-- Nothing of dump d is refused: the database can be opened, the gate of the dump isn't open, and no block is short of the opening.
pub record CanDump (d : ℕ) (files : Files) : Type 0 where
  pub opens : IsPlannable files
  pub shut : IsOpenDump d files → ⊥
  pub none : NoneShort files opens.plan.counts.items opens.plan.table
