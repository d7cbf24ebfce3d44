use Rattle.dms_follow.proofs.Going.{settled_follows, writes_keep_following, settles_all}
use Rattle.dms_follow.proofs.laws.settling_keeps.Goals as goal

pub returns : goal.returns
returns c = record { writes = writes_keep_following; all = settles_all; settled = settled_follows }
