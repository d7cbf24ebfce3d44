use Rattle.std.proofs.Common.{◌≡◌, ◌-◌, drop, length}
use Rattle.std.specs.Option.{option_copied}
use Rattle.dms_desc.specs.Shape.{shape_of}
use Rattle.dms_plain.specs.Rows.{entries_of}
use Rattle.dms_plain.specs.Scans.{spot_at, soonest}
use Rattle.dms_plain.proofs.scan.first.Given as goal

abbrev pub invariant-loop-k : goal.invariant-loop-k
invariant-loop-k l = spot_at (shape_of l.s) (option_copied l.best) ≡ soonest (shape_of l.s) l.manual.entries l.owner l.from (entries_of (drop (length l.rows - l.k) l.rows))
