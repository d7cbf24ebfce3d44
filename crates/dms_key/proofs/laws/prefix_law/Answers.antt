use Rattle.dms_key.specs.KeyOrder.{split_key}
use Rattle.dms_key.proofs.laws.prefix_law.Goals as goal

pub returns : goal.returns
returns c = split_key
