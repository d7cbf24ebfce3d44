use Rattle.dms_runner.proofs.Rooms.{next_law}
use Rattle.dms_runner.proofs.laws.next_law.Goals as goal

pub returns : goal.returns
returns c = next_law
