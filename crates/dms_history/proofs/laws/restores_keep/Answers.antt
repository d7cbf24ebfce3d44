use Rattle.dms_history.proofs.Stops.{restore_begins, restore_writes, restore_ends, ends_first, pending_writes_first}
use Rattle.dms_history.proofs.laws.restores_keep.Goals as goal

pub returns : goal.returns
returns c = record { begins = restore_begins; writes = restore_writes; ends = restore_ends; ends_first = ends_first; writes_first = pending_writes_first }
