use Rattle.std.proofs.Common.{◌∙◌}
use Rattle.dms_sets.proofs.Starting.{starts_is}
use Rattle.dms_sets.proofs.one.starts.Goals as goal

pub returns : goal.returns
returns c = c.starts_with.ensures.value ∙ starts_is c.args.bytes.now c.args.front.now
