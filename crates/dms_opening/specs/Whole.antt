-- Why a database isn't opened.
use Rattle.std.specs.Prelude.{ℕ, ◌≡◌, ◌⊎◌, IsTrue}
use Rattle.dms_moments.specs.Moments.{Steps}
use Rattle.dms_site.specs.declared.site.Site.{Ghosts}
use Rattle.dms_site.specs.Files.{Files, Same}
use Rattle.dms_opening.specs.declared.choosing.OpenFault.{OpenFault}
use Rattle.dms_opening.specs.declared.plan.OpeningPlan.{OpeningPlan}
use Rattle.dms_opening.specs.declared.whole.OpenRefusal.{OpenRefusal}
use Rattle.dms_opening.specs.declared.whole.OpenRefusal.TheVariants.{Fault, Short}
use Rattle.dms_opening.specs.Openings.{CanOpen, RefusesFiles, IsFullFault}
use Rattle.dms_opening.specs.Plans.{IsPlainFault}
use Rattle.dms_opening.specs.Short.{IsFirstShort, IsPlannable, IsShortOf, NoneShort}

-- what is judged behind the opening that is planned
abbrev pub JudgesWhole : Files → OpeningPlan → OpenRefusal → Type 0
JudgesWhole files plan (Fault fault) = IsPlainFault fault
JudgesWhole files plan (Short f b) = IsFirstShort files plan.counts.items plan.table f b

-- The first refusal of an opening; else the first block that it doesn't write and that its structure file doesn't hold whole. A failed call, want of memory
-- and an audit without room say nothing.
abbrev pub RefusesWhole : Files → OpenRefusal → Type 0
RefusesWhole files (Fault fault) = RefusesFiles files fault
RefusesWhole files (Short f b) = IsShortOf files f b

-- nothing is refused of an opening of these files, and no block is short of it
abbrev pub NoShortOf : Files → Type 0
NoShortOf files = (p : IsPlannable files) × NoneShort files p.plan.counts.items p.plan.table

-- it is a fault, of which this holds
abbrev pub OnFault : OpenRefusal → (OpenFault → Type 0) → Type 0
OnFault (Fault fault) P = P fault
OnFault (Short f b) P = ⊥

-- the files are opened: nothing is refused, and no block is short
abbrev pub CanOpenWhole : Files → Type 0
CanOpenWhole files = CanOpen files × NoShortOf files

module _ {S : Type 0} (g : Ghosts S) where
  -- Only reads were made: the files, the text and what a stop leaves are the same, and no printing failed.
  pub record StaysRead (a b : S) : Type 0 where
    pub files : IsTrue g.tells → g.files b ≡ g.files a
    pub moments : Steps Same (g.clock a) (g.clock b)
    pub said : g.said b ≡ g.said a
    pub say_faults : g.say_faults b ≡ g.say_faults a
    pub same : g.same_site a b

  -- Nothing was done for this refusal, which is none of a full audit: the files are the same, and a stop leaves what it could leave before.
  pub record StaysUnopenedWhole (old new : S) (refusal : OpenRefusal) : Type 0 where
    pub files : g.files new ≡ g.files old
    pub moments : Steps Same (g.clock old) (g.clock new)
    pub room : OnFault refusal IsFullFault → ⊥
