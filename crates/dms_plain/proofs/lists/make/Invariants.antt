use Rattle.std.proofs.Common.{◌≡◌, length, map}
use Rattle.dms_desc.specs.Shape.{shape_of}
use Rattle.dms_plain.specs.Listed.{AreLists}
use Rattle.dms_plain.specs.Rows.{records_in}
use Rattle.dms_plain.proofs.lists.make.Given as goal

abbrev pub invariant-loop-i : goal.invariant-loop-i
invariant-loop-i l = record {
  lists : AreLists (map shape_of l.structures) l.lists.items (records_in l.rows);
  count : length l.lists.items ≡ l.i;
}
