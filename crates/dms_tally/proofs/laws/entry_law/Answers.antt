use Rattle.dms_tally.specs.Tally.{owned_entered, owned_left}
use Rattle.dms_tally.proofs.laws.entry_law.Goals as goal

pub returns-clause-comes : goal.returns-clause-comes
returns-clause-comes c = owned_entered

pub returns-clause-goes : goal.returns-clause-goes
returns-clause-goes c = owned_left
