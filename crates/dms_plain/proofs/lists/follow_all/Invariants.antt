use Rattle.std.proofs.Common.{◌≡◌, length, map}
use Rattle.std.specs.Option.{option_copied}
use Rattle.dms_desc.specs.Shape.{shape_of}
use Rattle.dms_plain.specs.Rows.{records_in, restore}
use Rattle.dms_plain.proofs.Following.{Halfway}
use Rattle.dms_plain.proofs.lists.follow_all.Given as goal

abbrev pub invariant-loop-i : goal.invariant-loop-i
invariant-loop-i l = record {
  lists : Halfway (map shape_of l.structures) l.lists.items l.i (records_in l.rows) (restore (l.set, l.number) (option_copied l.new) (records_in l.rows));
  count : length l.lists.items ≡ l.i-end;
}
