use Rattle.dms_restore.proofs.Backed.{counted_as}
use Rattle.dms_restore.proofs.TailTables.{tells_placed}
use Rattle.dms_restore.proofs.tail_table.table_behind.Goals as goal

pub returns-in-Err-clause-disk : goal.returns-in-Err-clause-disk
returns-in-Err-clause-disk g c = counted_as _ _ _ _ c.disk_or_memory.ensures.disk c.disk_or_memory.ensures.same c.in-Err.ensures.disk

pub returns-in-Ok-table_of_point-clause-table : goal.returns-in-Ok-table_of_point-clause-table
returns-in-Ok-table_of_point-clause-table g c = λ tells.
    tells_placed (g.S.Site.files c.args.site.now) c.args.places.now c.args.point c.in-Ok.trace c.deref.result.now c.in-Ok-table_of_point.table.items c.deref.ensures.value c.if-trace.false (c.in-Ok.ensures.traced tells)
    c.in-Ok-table_of_point.ensures.table
