use Rattle.dms_tally.specs.Tally.{counted_removed, owned_removed}
use Rattle.dms_tally.proofs.laws.removal_law.Goals as goal

pub returns-clause-counted : goal.returns-clause-counted
returns-clause-counted c = counted_removed

pub returns-clause-owned : goal.returns-clause-owned
returns-clause-owned c = owned_removed
