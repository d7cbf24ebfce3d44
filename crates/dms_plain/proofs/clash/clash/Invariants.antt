use Rattle.std.proofs.Common.{◌≡◌, drop, map}
use Rattle.dms_desc.specs.Shape.{shape_of}
use Rattle.dms_plain.specs.Clashes.{clash_in}
use Rattle.dms_plain.specs.Rows.{entries_of}
use Rattle.dms_plain.proofs.clash.clash.Given as goal

abbrev pub invariant-loop-i : goal.invariant-loop-i
invariant-loop-i l = clash_in (map shape_of (drop l.i l.structures)) l.manual.entries (entries_of l.rows) l.set l.number l.rec ≡ clash_in (map shape_of l.structures) l.manual.entries (entries_of l.rows) l.set l.number l.rec
