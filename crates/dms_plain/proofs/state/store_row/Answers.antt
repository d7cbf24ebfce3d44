use Rattle.std.proofs.Common.{◌∙◌, ap, sym, List, Some}
use Rattle.dms_model.specs.Db.{Records, Place}
use Rattle.dms_plain.specs.declared.rows.Undo.{Undo}
use Rattle.dms_plain.specs.Rows.{records_in, undo_all, restore}
use Rattle.dms_plain.proofs.Following.{listed_on}
use Rattle.dms_plain.proofs.Maps.{in_order_added, db_added, undone-push, restore-insert}
use Rattle.dms_plain.proofs.state.store_row.Goals as goal

pub returns-in-Ok-clause-in_order : goal.returns-in-Ok-clause-in_order
returns-in-Ok-clause-in_order c = in_order_added c.args.rows.now.items c.place_row.new.rows.items (c.args.row.set, c.args.row.number) c.args.row.rec c.requires.in_order c.in-Ok.ensures.ok

pub returns-in-Ok-clause-db : goal.returns-in-Ok-clause-db
returns-in-Ok-clause-db c = db_added c.args.rows.now.items c.place_row.new.rows.items (c.args.row.set, c.args.row.number) c.args.row.rec c.requires.in_order c.in-Ok.ensures.ok

pub returns-in-Ok-clause-mark : goal.returns-in-Ok-clause-mark
returns-in-Ok-clause-mark c =
    let k : Place = (c.args.row.set, c.args.row.number) in
    let old = records_in c.args.rows.now.items in
    let new = records_in c.place_row.new.rows.items in
    let us = c.args.undo.now.items in
    let u : Undo = record { set = c.args.row.set; number = c.args.row.number; old = c.args.old } in
    ap (λ (xs : List Undo). undo_all xs new) c.in_ok-push.ensures.items
    ∙ undone-push us u new
    ∙ ap (λ (db : Records). undo_all us (restore k c.args.old db)) (db_added c.args.rows.now.items c.place_row.new.rows.items k c.args.row.rec c.requires.in_order c.in-Ok.ensures.ok)
    ∙ ap (undo_all us) (restore-insert old k c.args.row.rec c.args.old (sym c.requires.old))

pub returns-in-Ok-clause-listed : goal.returns-in-Ok-clause-listed
returns-in-Ok-clause-listed c =
    let k : Place = (c.args.row.set, c.args.row.number) in
    let rows = c.args.rows.now.items in
    listed_on c.args.desc.now.structures c.as_slice.result.now c.follow.new.lists.items rows c.as_slice-2.result.now k (Some c.args.row.rec) (records_in c.place_row.new.rows.items) c.as_slice.ensures c.as_slice-2.ensures.value
    (db_added rows c.place_row.new.rows.items k c.args.row.rec c.requires.in_order c.in-Ok.ensures.ok) c.follow.ensures
