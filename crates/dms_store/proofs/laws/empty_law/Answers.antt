use Rattle.dms_store.specs.SpelledLaws.{empty_spelled}
use Rattle.dms_store.proofs.laws.empty_law.Goals as goal

pub returns : goal.returns
returns c desc content none = empty_spelled content none desc
