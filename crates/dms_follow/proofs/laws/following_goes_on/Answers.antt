use Rattle.dms_follow.proofs.Going.{plain_follows, control_follows, begin_follows}
use Rattle.dms_follow.proofs.laws.following_goes_on.Goals as goal

pub returns : goal.returns
returns c = record { plain = plain_follows; control = control_follows; begin = begin_follows }
