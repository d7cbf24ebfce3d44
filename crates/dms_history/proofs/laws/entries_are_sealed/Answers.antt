use Rattle.dms_history.proofs.Sealed.{schema_sealed, image_sealed, range_sealed, quiet_sealed, control_sealed, begin_sealed, one_more_event}
use Rattle.dms_history.proofs.Turns.{history_append}
use Rattle.dms_history.proofs.Alone.{alone_events}
use Rattle.dms_history.proofs.SchemaParts.{parts_say_nothing, schema_in_parts}
use Rattle.dms_history.proofs.laws.entries_are_sealed.Goals as goal

pub returns : goal.returns
returns c = record { schema = schema_sealed; image = image_sealed; range = range_sealed; quiet = quiet_sealed; control = control_sealed; begin = begin_sealed; event = one_more_event; parts = parts_say_nothing; in_parts = schema_in_parts; history = λ h one two. history_append one two h; alone = alone_events }
