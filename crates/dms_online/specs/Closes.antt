-- How a running database is closed, whatever is written beside it.
use Rattle.std.specs.Prelude.{ℕ, ◌≡◌, ◌⊎◌, List, IsTrue, true}
use Rattle.dms_audfile.specs.Counting.{CountedAt}
use Rattle.dms_block.specs.Content.{Content}
use Rattle.dms_block.specs.declared.block_fault.BlockFault.{BlockFault}
use Rattle.dms_block.specs.declared.block_fault.BlockFault.TheVariants.{Disk, Memory, Full}
use Rattle.dms_history.specs.Entries.{Entry}
use Rattle.dms_restore.specs.Logging.{LogGrows, content, telling}
use Rattle.dms_restore.specs.Views.{view_of}
use Rattle.dms_site.specs.declared.site.Site.{Ghosts}
use Rattle.dms_wal.specs.Closing.{FilesStand, IsFullTrail, LeavesUntil, entries_closing, entries_control}
use Rattle.dms_wal.specs.Database.{running_held}
use Rattle.dms_wal.specs.Growing.{close_limit, over_site}
use Rattle.dms_wal.specs.Lifting.{lift_clock}
use Rattle.dms_wal.specs.Marks.{mark_of}
use Rattle.dms_wal.specs.declared.running.Running.{Running}
use Rattle.dms_online.specs.Ending.{IsUntoldDamage}

module _ {D : Type 0} (d : Ghosts D) (r : Running D) where
  -- The files of this site hold it with these entries behind its own and this content, at each moment up to there a stop left the first so many of
  -- its points, at most so many entries were logged, no call failed, and nothing was printed.
  pub record ClosesBy (n : ℕ) (behind : List Entry) (blocks : Content) (s : D) : Type 0 where
    pub closed : IsTrue d.tells → FilesStand (view_of d r.log) behind blocks (d.files s) (d.clock s)
    pub leaves : LeavesUntil (running_held d r) (lift_clock (telling (view_of d r.log)) (d.clock s))
    pub grown : IsTrue d.tells → LogGrows n (view_of d r.log) (over_site d (view_of d r.log) s)
    pub disk : d.disk_faults s ≡ d.disk_faults r.log.site
    pub say : d.say_faults s ≡ d.say_faults r.log.site
    pub said : IsTrue d.tells_said → d.said s ≡ d.said r.log.site

  -- It wasn't closed, by a fault of this kind: up to there all holds that a stop within a close leaves.
  pub record FailsBy (n : ℕ) (kind : BlockFault → Type 0) (e : BlockFault × D) : Type 0 where
    pub only : kind e.0
    pub leaves : LeavesUntil (running_held d r) (lift_clock (telling (view_of d r.log)) (d.clock e.1))
    pub full : e.0 ≡ Full 9999 → IsTrue d.tells → IsFullTrail (view_of d r.log) (d.files e.1)
    pub grown : IsTrue d.tells → LogGrows n (view_of d r.log) (over_site d (view_of d r.log) e.1)
    pub disk : CountedAt (e.0 ≡ Disk) (d.disk_faults r.log.site) (d.disk_faults e.1)
    pub say : d.say_faults e.1 ≡ d.say_faults r.log.site
    pub said : IsTrue d.tells_said → d.said e.1 ≡ d.said r.log.site

  -- a control point with the content of now
  abbrev pub ControlCloses : D → Type 0
  ControlCloses = ClosesBy 18 (entries_control r.point r.schema.items r.next r.counts.items) (content (view_of d r.log))

  -- a call of the disk failed, all audit files are full, or a block was found damaged over files that aren't told
  abbrev pub IsControlFault : BlockFault → Type 0
  IsControlFault e = (e ≡ Disk) ⊎ ((e ≡ Full 9999) ⊎ IsUntoldDamage d.tells e)

  abbrev pub ControlFails : BlockFault × D → Type 0
  ControlFails = FailsBy 18 IsControlFault

  -- it holds its last point, whether or not something was changed since
  abbrev pub Closes : D → Type 0
  Closes = ClosesBy (close_limit r.changed) (entries_closing r.changed r.point r.schema.items r.next r.marks.items) (mark_of (view_of d r.log))

  -- or memory was refused while it went back
  abbrev pub IsCloseFault : BlockFault → Type 0
  IsCloseFault e = IsControlFault e ⊎ ((r.changed ≡ true) × (e ≡ Memory))

  abbrev pub FailsToClose : BlockFault × D → Type 0
  FailsToClose = FailsBy (close_limit r.changed) IsCloseFault
