-- Restores that take blocks from a dump.
use Rattle.std.specs.Prelude.{ℕ, ◌≤◌, Option, Some, None}
use Rattle.dms_history.specs.Events.{How, halt_load, back_out, roll_back, rebuild, reconstruct}
use Rattle.dms_history.specs.Places.{IsLive}
use Rattle.dms_history.specs.History.{Pending}
use Rattle.dms_history.specs.Pick.{Dumps}

-- Dump d can serve a restore: it is found, its point and its end are live among the entries before the Begin, and neither is above the restore's
-- point.
pub record DumpInOrder (found : ℕ → Type 0) (dumps : Dumps) (p : Pending) (d : ℕ) : Type 0 where
  pub is_found : found d
  pub point_lives : IsLive p.entries (dumps d).point
  pub end_lives : IsLive p.entries (dumps d).end
  pub point_low : (dumps d).point ≤ p.point
  pub end_low : (dumps d).end ≤ p.point

abbrev pub OrderBy : (ℕ → Type 0) → Dumps → Pending → How → Type 0
OrderBy found dumps p halt_load = Unit {0}
OrderBy found dumps p back_out = Unit {0}
OrderBy found dumps p roll_back = Unit {0}
OrderBy found dumps p (rebuild d) = DumpInOrder found dumps p d
OrderBy found dumps p (reconstruct d named) = DumpInOrder found dumps p d

-- The dump of a restore that is pending is in order; where none is pending, or one by the audit, nothing is asked.
abbrev pub DumpsInOrder : (ℕ → Type 0) → Dumps → Option Pending → Type 0
DumpsInOrder found dumps None = Unit {0}
DumpsInOrder found dumps (Some p) = OrderBy found dumps p p.how

-- the number of the dump by which a restore goes
abbrev pub dump_by : How → Option ℕ
dump_by halt_load = None
dump_by back_out = None
dump_by roll_back = None
dump_by (rebuild d) = Some d
dump_by (reconstruct d named) = Some d

abbrev pub dump_in : Option Pending → Option ℕ
dump_in None = None
dump_in (Some p) = dump_by p.how
