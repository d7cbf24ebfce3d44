use Rattle.dms_history.proofs.Cuts.{to_end}
use Rattle.dms_restore.proofs.Results.{some_if_ok}
use Rattle.dms_restore.proofs.TailTables.{tells_last, undoes_last}
use Rattle.dms_restore.proofs.tail_table.table_of_last.Goals as goal

pub returns-then-control-point-clause-table : goal.returns-then-control-point-clause-table
returns-then-control-point-clause-table g c = some_if_ok c.table_behind.result c.table_behind.ensures.table (λ v told tells.
    let control = c.in-Ok-Some.control in
    tells_last c.args.at_control (g.S.Site.files c.args.site.now) (g.S.Site.files c.first_control.new.site) c.args.places.now _ control.up_to control.number c.args.point v.items c.if-control-point.true
    (to_end control.up_to c.args.places.now) (c.first_control.ensures.reads.files_stay tells) ((rw c.in-Ok-Some.field-0-is at c.in-Ok-Some.ensures.found) tells) (told tells))

pub returns-clause-table : goal.returns-clause-table
returns-clause-table g c = some_if_ok c.undo_behind.result c.undo_behind.ensures.table (λ v undoes tells.
    let control = c.in-Ok-Some.control in
    undoes_last c.args.at_control (g.S.Site.files c.args.site.now) (g.S.Site.files c.first_control.new.site) c.args.places.now _ control.up_to control.number c.args.point v.items c.if-not-at_control.false
    (to_end control.up_to c.args.places.now) (c.first_control.ensures.reads.files_stay tells) ((rw c.in-Ok-Some.field-0-is at c.in-Ok-Some.ensures.found) tells) (undoes tells))
