use Rattle.std.proofs.Common.{◌∙◌, ap, sym, Some, None}
use Rattle.std.specs.declared.option.Option.{Option}
use Rattle.dms_desc.specs.declared.record.Record.{Record}
use Rattle.dms_plain.specs.Rows.{records_in, restore}
use Rattle.dms_model.specs.Db.{Place}
use Rattle.dms_plain.proofs.Following.{listed_on}
use Rattle.dms_plain.proofs.Maps.{in_order_added, db_added, in_order_left, db_left}
use Rattle.dms_plain.proofs.state.restore_row.Goals as goal

pub returns-in-None-clause-in_order : goal.returns-in-None-clause-in_order
returns-in-None-clause-in_order c = in_order_left c.args.rows.now.items c.remove_row.new.rows.items (c.args.undo.set, c.args.undo.number) c.requires.in_order c.remove_row.ensures

pub returns-in-None-clause-db : goal.returns-in-None-clause-db
returns-in-None-clause-db c =
    db_left c.args.rows.now.items c.remove_row.new.rows.items (c.args.undo.set, c.args.undo.number) c.requires.in_order c.remove_row.ensures
    ∙ sym (ap (λ (o : Option Record). restore (c.args.undo.set, c.args.undo.number) o (records_in c.args.rows.now.items)) c.in-None.is)

pub returns-in_ok-place_row-in-Some-clause-in_order : goal.returns-in_ok-place_row-in-Some-clause-in_order
returns-in_ok-place_row-in-Some-clause-in_order c = in_order_added c.args.rows.now.items c.place_row.new.rows.items (c.args.undo.set, c.args.undo.number) c.in-Some.rec c.requires.in_order c.in_ok-place_row-in-Some.ensures.ok

pub returns-in_ok-place_row-in-Some-clause-db : goal.returns-in_ok-place_row-in-Some-clause-db
returns-in_ok-place_row-in-Some-clause-db c =
    db_added c.args.rows.now.items c.place_row.new.rows.items (c.args.undo.set, c.args.undo.number) c.in-Some.rec c.requires.in_order c.in_ok-place_row-in-Some.ensures.ok
    ∙ sym (ap (λ (o : Option Record). restore (c.args.undo.set, c.args.undo.number) o (records_in c.args.rows.now.items)) c.in-Some.is)

pub returns-in-None-clause-listed : goal.returns-in-None-clause-listed
returns-in-None-clause-listed c =
    let k : Place = (c.args.undo.set, c.args.undo.number) in
    let rows = c.args.rows.now.items in
    listed_on c.args.desc.now.structures c.as_slice-structures.result.now c.follow.new.lists.items rows c.as_slice.result.now k None (records_in c.remove_row.new.rows.items) c.as_slice-structures.ensures c.as_slice.ensures.value
    (db_left rows c.remove_row.new.rows.items k c.requires.in_order c.remove_row.ensures) c.follow.ensures

pub returns-in_ok-place_row-in-Some-clause-listed : goal.returns-in_ok-place_row-in-Some-clause-listed
returns-in_ok-place_row-in-Some-clause-listed c =
    let k : Place = (c.args.undo.set, c.args.undo.number) in
    let rows = c.args.rows.now.items in
    listed_on c.args.desc.now.structures c.as_slice-structures-in-Some.result.now c.follow-in-Some.new.lists.items rows c.as_slice-in-Some.result.now k (Some c.in-Some.rec) (records_in c.place_row.new.rows.items) c.as_slice-structures-in-Some.ensures c.as_slice-in-Some.ensures.value
    (db_added rows c.place_row.new.rows.items k c.in-Some.rec c.requires.in_order c.in_ok-place_row-in-Some.ensures.ok) c.follow-in-Some.ensures
