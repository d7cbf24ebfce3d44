use Rattle.dms_restore.proofs.Backed.{counted_as}
use Rattle.dms_restore.proofs.Results.{both_if_some}
use Rattle.dms_restore.proofs.TailTables.{undoes_placed}
use Rattle.dms_restore.proofs.tail_table.undo_behind.Goals as goal

pub returns-in-Err-clause-disk : goal.returns-in-Err-clause-disk
returns-in-Err-clause-disk g c = counted_as _ _ _ _ c.disk_or_memory.ensures.disk c.disk_or_memory.ensures.same c.in-Err.ensures.disk

pub returns-in-Ok-table_since-clause-table : goal.returns-in-Ok-table_since-clause-table
returns-in-Ok-table_since-clause-table g c = both_if_some c.in-Ok-table_since.table c.in-Ok-table_since.ensures.last c.in-Ok-table_since.ensures.table (λ v last table tells.
    undoes_placed (g.S.Site.files c.args.site.now) c.args.places.now c.in-Ok.trace c.deref.result.now v.items c.deref.ensures.value c.if-trace.false (c.in-Ok.ensures.traced tells) last table)
