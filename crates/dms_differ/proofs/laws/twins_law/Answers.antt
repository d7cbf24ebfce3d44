use Rattle.dms_differ.proofs.Twinned.{twins_are_neighbours}
use Rattle.dms_differ.proofs.laws.twins_law.Goals as goal

pub returns : goal.returns
returns c = twins_are_neighbours
