use Rattle.dms_history.proofs.SchemaReads.{each_schema, schema_stays, schema_of_new, live_has_schema}
use Rattle.dms_history.proofs.laws.points_have_schemas.Goals as goal

pub returns : goal.returns
returns c = record { reads = each_schema; stays = schema_stays; new = schema_of_new; lives = live_has_schema }
