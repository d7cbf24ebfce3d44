use Rattle.dms_restore.proofs.Backed.{counted_as}
use Rattle.dms_restore.proofs.Results.{some_if_ok}
use Rattle.dms_restore.proofs.TailTables.{tells_trail}
use Rattle.dms_restore.proofs.tail_table.told_near.Goals as goal

pub returns-in-Err-clause-disk : goal.returns-in-Err-clause-disk
returns-in-Err-clause-disk g c = counted_as _ _ _ _ c.disk_or_memory.ensures.disk c.disk_or_memory.ensures.same c.in-Err.ensures.disk

pub returns-clause-table : goal.returns-clause-table
returns-clause-table g c = some_if_ok c.table_of_last.result c.table_of_last.ensures.table (λ v told tells.
    tells_trail c.args.at_control c.entries_stand_at_their_places.ensures c.entries_stay_at_their_places.ensures c.what_is_read_from_a_block_is_found.ensures c.args.end.now c.args.first _ _ c.args.from.now c.in-Ok.places.items _ c.args.point v.items
    (c.is_in_trail.ensures c.if-not-is_in_trail.false) c.deref.ensures.value (c.places_from.ensures.reads.files_stay tells) (c.in-Ok.ensures.read tells) (told tells))
