use Rattle.dms_running.proofs.EndsFirst.{any_writes_first, any_ends_first}
use Rattle.dms_running.proofs.laws.any_restore_ends_first.Goals as goal

pub returns-clause-writes : goal.returns-clause-writes
returns-clause-writes c = any_writes_first

pub returns-clause-ends : goal.returns-clause-ends
returns-clause-ends c = any_ends_first
