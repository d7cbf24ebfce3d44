use Rattle.dms_desc.specs.Shape.{as_described}
use Rattle.dms_plain.proofs.Maps.{db_left, in_order_left}
use Rattle.dms_plain.proofs.Removing.{in_order_corrected, taken_out}
use Rattle.dms_plain.proofs.removal.take_out.Goals as goal

pub returns-clause-in_order : goal.returns-clause-in_order
returns-clause-in_order c =
    let one = c.correct_rows.new.rows.items in
    let order = in_order_corrected (as_described c.args.desc.now) c.args.set c.args.number c.args.rows.now.items one c.requires c.correct_rows.ensures in
    in_order_left one c.remove_row.new.rows.items (c.args.set, c.args.number) order c.remove_row.ensures

pub returns-clause-db : goal.returns-clause-db
returns-clause-db c =
    let desc = as_described c.args.desc.now in
    let rows = c.args.rows.now.items in
    let one = c.correct_rows.new.rows.items in
    let new = c.remove_row.new.rows.items in
    let order = in_order_corrected desc c.args.set c.args.number rows one c.requires c.correct_rows.ensures in
    taken_out desc c.args.set c.args.number rows one new c.requires c.correct_rows.ensures (db_left one new (c.args.set, c.args.number) order c.remove_row.ensures)
