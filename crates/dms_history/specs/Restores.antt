-- When a restore may begin, which blocks it may write, and what holds of a database at every moment of it.
use Rattle.std.specs.Prelude.{ℕ, ◌<◌, ◌≡◌, ◌&&◌, if◌then◌else◌, Bool, true, false, List, Option, Some, None}
use Rattle.dms_history.specs.Events.{BlockBytes, AllBlocks, Stored, How, halt_load, back_out, roll_back, rebuild, reconstruct, Event, block_in}
use Rattle.dms_history.specs.Replay.{replay}
use Rattle.dms_history.specs.Lists.{until_first, after_first, after_last}
use Rattle.dms_history.specs.Places.{is_control, is_point, IsLive}
use Rattle.dms_history.specs.History.{Pending, History}
use Rattle.dms_history.specs.Images.{last_after, first_before}
use Rattle.dms_history.specs.Pick.{Dump, Dumps, blocks_at, count_at, dump_pick}
use Rattle.dms_history.specs.Here.{outcome, here}
use Rattle.dms_history.specs.Base.{from_control, Sound}

-- A dump is true where its point is live and its blocks are the content at that point.
pub record IsTrueDump (dump : Dump) (live : List Event) (counted : Stored) : Type 0 where
  pub point_lives : IsLive live dump.point
  pub same : dump.blocks ≡ blocks_at live counted dump.point

-- A dump serves a restore to point m where it gives each block there: the last after-image between the dump's point and m, else the dump's block.
pub record DumpServes (dump : Dump) (live : List Event) (counted : Stored) (m : ℕ) : Type 0 where
  pub gives : (f b : ℕ) → b < count_at live m f → dump_pick live dump m f b ≡ block_in (blocks_at live counted m) f b

abbrev pub HasDump : How → Dumps → List Event → Stored → ℕ → Type 0
HasDump halt_load dumps live counted m = Unit {0}
HasDump back_out dumps live counted m = Unit {0}
HasDump roll_back dumps live counted m = Unit {0}
HasDump (rebuild d) dumps live counted m = DumpServes (dumps d) live counted m
HasDump (reconstruct d named) dumps live counted m = DumpServes (dumps d) live counted m

-- the blocks that may hold anything when a restore begins
abbrev pub may_hold_anything : How → ℕ → ℕ → Bool
may_hold_anything halt_load f b = false
may_hold_anything back_out f b = false
may_hold_anything roll_back f b = false
may_hold_anything (rebuild d) f b = true
may_hold_anything (reconstruct d named) f b = named f b

-- A restore to point m may begin over live entries with a base: counted is what counted as each block, stored is what is there now.
pub record Ready (how : How) (dumps : Dumps) (live : List Event) (base : AllBlocks) (counted stored : Stored) (m : ℕ) : Type 0 where
  pub sound : Sound (from_control live) base counted
  pub same : (f b : ℕ) → may_hold_anything how f b ≡ false → stored f b ≡ counted f b
  pub point_lives : IsLive live m
  pub dump : HasDump how dumps live counted m

abbrev pub is_none : {A : Type 0} → Option A → Bool
is_none None = true
is_none (Some x) = false

-- there is no first change, or it has no before-image
abbrev pub has_no_before : Option (Option BlockBytes) → Bool
has_no_before None = true
has_no_before (Some before) = is_none before

-- The audit has no after-image of a block between the last Control at or before the place of m and that place, and the
-- first change of it after that place, if there is one, has no before-image.
abbrev pub is_unlogged : List Event → ℕ → ℕ → ℕ → Bool
is_unlogged live m f b = is_none (last_after f b (after_last is_control (until_first (is_point m) live))) && has_no_before (first_before f b (after_first (is_point m) live))

-- A restore takes a block that is below its file's count at the point from what is stored, and so must never write it.
abbrev pub takes_stored : How → List Event → ℕ → ℕ → ℕ → Bool
takes_stored halt_load live m f b = is_unlogged live m f b
takes_stored back_out live m f b = is_unlogged live m f b
takes_stored roll_back live m f b = is_unlogged live m f b
takes_stored (rebuild d) live m f b = false
takes_stored (reconstruct d named) live m f b = if named f b then false else is_unlogged live m f b

-- What holds at every moment, with or without a pending restore: there is a base, and over it the live entries tell what counts as each
-- block that doesn't change after the last Control; where a restore is pending it is to leave what the live entries tell, and its point
-- is live.
pub record Steady (dumps : Dumps) (h : History) (base : AllBlocks) (stored : Stored) : Type 0 where
  pub sound : Sound (from_control h.live) base (here dumps h stored)
  pub restored : (p : Pending) → h.pending ≡ Some p → outcome p.how dumps p.entries p.point stored ≡ replay (from_control h.live) base
  pub point_lives : (p : Pending) → h.pending ≡ Some p → IsLive h.live p.point
