use Rattle.dms_runner.proofs.Counting.{counted_law}
use Rattle.dms_runner.proofs.laws.counted_law.Goals as goal

pub returns : goal.returns
returns c = counted_law
