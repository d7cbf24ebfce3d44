use Rattle.std.proofs.Common.{refl}
use Rattle.dms_restore.proofs.Traced.{traced_none}
use Rattle.dms_restore.proofs.tracing.TrailHistory.with_room.Goals as goal

pub returns-clause-none : goal.returns-clause-none
returns-clause-none c files = traced_none files _ c.in_ok-with_capacity.ensures.items c.new.ensures.items refl refl refl refl
