-- A running database of which a dump is copied.
use Rattle.std.specs.Prelude.{◌+◌, ◌-◌, ◌*◌, ◌^◌, ◌<◌, ◌≤◌, ◌≡◌, IfSome, IsTrue, Some, None, min, option_map}
use Rattle.std.specs.declared.option.Option.{Option}
use Rattle.dms_moments.specs.Moments.{Now}
use Rattle.dms_site.specs.declared.site.Site.{Ghosts}
use Rattle.dms_site.specs.Files.{Left}
use Rattle.dms_block.specs.Held.{Held, IfTold}
use Rattle.dms_dump.specs.Head.{head_bytes}
use Rattle.dms_wal.specs.Controls.{KeepsPace}
use Rattle.dms_wal.specs.Database.{IsRunningUsable, running_held}
use Rattle.dms_wal.specs.Growing.{GrowsBy}
use Rattle.dms_wal.specs.declared.running.Running.{Running}
use Rattle.dms_online.specs.declared.dump_site.DumpSite.{DumpSite}
use Rattle.dms_online.specs.declared.online.Online.{Online}
use Rattle.dms_online.specs.declared.plan.Copying.{Copying}
use Rattle.dms_online.specs.Calls.{HasShutGate, SameDump}
use Rattle.dms_online.specs.Copying.{EndsAtPoint}
use Rattle.dms_online.specs.Going.{GoesOn}
use Rattle.dms_online.specs.Plans.{IsPlan, head_of}

-- the plan, whatever of it is done
abbrev pub undone : Copying → Copying
undone c = record c { done = 0 }

-- 16 blocks more are done, or all
abbrev pub CopiedOn : Option Copying → Option Copying → Type 0
CopiedOn None new = new ≡ None
CopiedOn (Some c) new = new ≡ Some (record c { done = min (c.done + 16) c.total })

-- 16 blocks are copied for each number of a point since it began, until all are; where the next number is the last one nothing is said
pub record KeepsUp {D : Type 0} (r : Running D) (c : Copying) : Type 0 where
  pub order : c.first_next ≤ r.next
  pub up : r.next + 1 < 2 ^ 64 → c.done ≡ min c.total (16 * (r.next - c.first_next))

-- what needs to hold of a running database for it to be usable with what is asked besides
abbrev pub held_with : Held → Type 0 → Held
held_with h sound = record h { sound = sound }

module _ {S : Type 0} (d : Ghosts (DumpSite S)) (g : Ghosts S) where
  -- The file of the dump is shut, now and for a stop; it has its head, with the point as its end, and the blocks that are done, each as at one of the
  -- points from that one on.
  pub record IsCopied (r : Running (DumpSite S)) (c : Copying) : Type 0 where
    pub above : 20000 < r.log.site.file
    pub below : r.log.site.file ≤ 30000
    pub plan : IsPlan c
    pub reached : IfTold (running_held d r) (EndsAtPoint (running_held d r) c.point)
    pub goes : IfTold (running_held d r) (GoesOn (running_held d r) (g.files r.log.site.site r.log.site.file) c.front c.point c.counts.items c.done (head_bytes (head_of c c.point)))
    pub shut : IsTrue g.tells → (x : Left) → Now (g.clock r.log.site.site) x → HasShutGate (x.files r.log.site.file)

  -- The database is usable, and where a dump is copied that has come as far as the points have.
  pub record IsOnlineUsable (o : Online S) : Type 0 where
    pub usable : IsRunningUsable d o.running
    pub copied : IfSome o.copy (IsCopied o.running)
    pub up : IfSome o.copy (KeepsUp o.running)

  -- all that it tells of itself: what the database tells
  abbrev pub online_held : Online S → Held
  online_held o = held_with (running_held d o.running) (IsOnlineUsable o)

  -- The same site, dump and plan, and the same pace; the audit grows by what the database is used for.
  pub record SameOnline (a b : Online S) : Type 0 where
    pub dump : SameDump g a.running.log.site b.running.log.site
    pub pace : KeepsPace a.running b.running
    pub grows : GrowsBy d a.running b.running
    pub plan : option_map undone b.copy ≡ option_map undone a.copy
