use Rattle.dms_follow.proofs.Settling.{restoring_leaves, restoring_settles}
use Rattle.dms_follow.proofs.laws.a_restore_settles.Goals as goal

pub returns : goal.returns
returns c = record { leaves = restoring_leaves; settles = restoring_settles }
