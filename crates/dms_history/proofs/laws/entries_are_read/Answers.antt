use Rattle.dms_history.proofs.Schemas.{rows_of_blocks, live_of_entries, whole_schemas}
use Rattle.dms_history.proofs.laws.entries_are_read.Goals as goal

pub returns : goal.returns
returns c = record { schemas = whole_schemas; live = live_of_entries; rows = rows_of_blocks }
