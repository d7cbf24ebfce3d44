use Rattle.dms_running.proofs.ByHow.{tells_by}
use Rattle.dms_running.proofs.AnyRestore.{any_begins, any_writes, any_restored}
use Rattle.dms_running.proofs.laws.any_restore_stands.Goals as goal

pub returns-clause-tells : goal.returns-clause-tells
returns-clause-tells c = tells_by

pub returns-clause-begins : goal.returns-clause-begins
returns-clause-begins c = any_begins

pub returns-clause-writes : goal.returns-clause-writes
returns-clause-writes c = any_writes

pub returns-clause-restored : goal.returns-clause-restored
returns-clause-restored c = any_restored
