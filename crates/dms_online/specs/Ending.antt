-- How a dump that was copied is ended.
use Rattle.std.specs.Prelude.{ℕ, ◌≡◌, ◌⊎◌, Bool, List, ◌∷◌, IfSome, IsTrue}
use Rattle.std.specs.declared.option.Option.{Option}
use Rattle.dms_moments.specs.Moments.{Clock, Runs}
use Rattle.dms_site.specs.declared.site.Site.{Ghosts}
use Rattle.dms_site.specs.Files.{Files, Left}
use Rattle.dms_block.specs.declared.block_fault.BlockFault.{BlockFault}
use Rattle.dms_block.specs.declared.block_fault.BlockFault.TheVariants.{Damaged}
use Rattle.dms_block.specs.Held.{Held, IfTold}
use Rattle.dms_dump.specs.Copies.{BlocksAreRead}
use Rattle.dms_dump.specs.Stops.{IsShut}
use Rattle.dms_restore.specs.Logging.{LogView, points, telling}
use Rattle.dms_restore.specs.Views.{view_of}
use Rattle.dms_running.specs.Points.{points_of}
use Rattle.dms_running.specs.Standing.{IsWhole}
use Rattle.dms_wal.specs.Database.{running_held}
use Rattle.dms_wal.specs.declared.running.Running.{Running}
use Rattle.dms_online.specs.declared.dump_site.DumpSite.{DumpSite}
use Rattle.dms_online.specs.declared.plan.Copying.{Copying}
use Rattle.dms_online.specs.Copying.{IsAtPoint}
use Rattle.dms_online.specs.Plans.{head_of}

-- a stop leaves the file shut, or exactly this one
abbrev pub LeavesShutOr : ℕ → List ℕ → Left → Type 0
LeavesShutOr f made x = IsShut (x.files f) ⊎ (x.files f ≡ made)

-- where files are told: the gate of this one was shut and is open now, and all that stands behind it is the same
abbrev pub OpensGate : Bool → ℕ → Files → Files → Type 0
OpensGate tells f old new = (rest : List ℕ) → IsTrue tells → old f ≡ 0 ∷ rest → new f ≡ 1 ∷ rest

-- and meanwhile a stop leaves it shut, or as it is then
abbrev pub LeavesOpening : Bool → ℕ → Files → Clock Left → Clock Left → Type 0
LeavesOpening tells f old start end = (rest : List ℕ) → IsTrue tells → old f ≡ 0 ∷ rest → Runs start end (LeavesShutOr f (1 ∷ rest))

-- a stop leaves files that hold the database of this trail, with all its points
abbrev pub HoldsAll : LogView → Left → Type 0
HoldsAll v x = IsWhole (telling v) x.files × (points_of (telling v) x.files ≡ points v)

-- a stop leaves the file shut; or exactly this one, and all points
abbrev pub LeavesSealed : LogView → ℕ → List ℕ → Left → Type 0
LeavesSealed v f made x = IsShut (x.files f) ⊎ ((x.files f ≡ made) × HoldsAll v x)

-- a block was found damaged, which over files that are told never comes
abbrev pub IsUntoldDamage : Bool → BlockFault → Type 0
IsUntoldDamage tells e = (f : ℕ) × (b : ℕ) × (e ≡ Damaged f b) × (IsTrue tells → ⊥)

-- The file is the dump of this plan with this end, whole, and each of its blocks is as it was at one of these points, from the plan's point on.
abbrev pub IsDumpOf : Held → Copying → ℕ → List ℕ → Type 0
IsDumpOf h c end file = BlocksAreRead (IsAtPoint h.points c.point) (head_of c end) file

-- a stop leaves the dump shut; or whole, and all points
abbrev pub LeavesCopied : Held → LogView → Copying → ℕ → ℕ → Left → Type 0
LeavesCopied h v c end f x = IsShut (x.files f) ⊎ (IsDumpOf h c end (x.files f) × HoldsAll v x)

-- Of a running database before, and its site behind it.
module _ {S : Type 0} (d : Ghosts (DumpSite S)) (g : Ghosts S) (r : Running (DumpSite S)) (s : DumpSite S) where
  -- the dump was shut; at each moment it was that, or it is as it was with its gate open, and the files held all points
  abbrev pub SealsDump : Type 0
  SealsDump = IfTold (running_held d r) ((rest : List ℕ) → g.files r.log.site.site r.log.site.file ≡ 0 ∷ rest
      → Runs (g.clock r.log.site.site) (g.clock s.site) (LeavesSealed (view_of d r.log) r.log.site.file (1 ∷ rest)))

  -- the dump, if there is one, is whole, and its end is the last point
  abbrev pub EndsDump : Option Copying → Type 0
  EndsDump copy = IfTold (running_held d r) (IfSome copy (λ c. IsDumpOf (running_held d r) c r.point (g.files s.site r.log.site.file)))

  -- at each moment it was shut; or whole, and the files held all points
  abbrev pub LeavesDump : Option Copying → Type 0
  LeavesDump copy = IfTold (running_held d r) (IfSome copy (λ c.
      Runs (g.clock r.log.site.site) (g.clock s.site) (LeavesCopied (running_held d r) (view_of d r.log) c r.point r.log.site.file)))
