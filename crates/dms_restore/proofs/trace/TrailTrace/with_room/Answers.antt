use Rattle.dms_restore.proofs.trace.TrailTrace.with_room.Goals as goal

pub returns-clause-none : goal.returns-clause-none
returns-clause-none c files also = record { history = c.in_ok-with_room.ensures.none files; schemas = c.new.ensures }
