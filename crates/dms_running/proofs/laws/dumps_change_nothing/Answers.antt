use Rattle.dms_running.proofs.NewDumps.{new_dump_keeps}
use Rattle.dms_running.proofs.laws.dumps_change_nothing.Goals as goal

pub returns : goal.returns
returns c = new_dump_keeps
