use Rattle.dms_manual.specs.Listed.{manual_entered, manual_left, manual_still}
use Rattle.dms_manual.proofs.laws.lists_follow_entries.Goals as goal

pub returns-clause-comes : goal.returns-clause-comes
returns-clause-comes c desc s db o n r at small here none = manual_entered desc s db o n r at small here none

pub returns-clause-goes : goal.returns-clause-goes
returns-clause-goes c desc s db o n r at small here has less = manual_left desc s db o n r at small here has less

pub returns-clause-stays : goal.returns-clause-stays
returns-clause-stays c = manual_still
