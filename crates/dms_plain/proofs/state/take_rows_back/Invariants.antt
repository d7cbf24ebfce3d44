use Rattle.std.proofs.Common.{◌≡◌, ◌+◌, length, map}
use Rattle.dms_desc.specs.Shape.{shape_of}
use Rattle.dms_plain.specs.Listed.{AreLists}
use Rattle.dms_plain.specs.Rows.{records_in, undo_all, IsInOrder}
use Rattle.dms_plain.proofs.state.take_rows_back.Given as goal

abbrev pub invariant-loop-turn : goal.invariant-loop-turn
invariant-loop-turn l = record {
  in_order : IsInOrder l.rows.items;
  listed : AreLists (map shape_of l.desc.structures) l.lists.items (records_in l.rows.items);
  same : undo_all l.undo.items (records_in l.rows.items) ≡ undo_all l.fn.undo.items (records_in l.fn.rows.items);
  count : length l.undo.items + l._turn ≡ length l.fn.undo.items;
}
