use Rattle.dms_history.proofs.Again.{however_often, from_anything}
use Rattle.dms_history.proofs.laws.however_often.Goals as goal

pub returns : goal.returns
returns c = record { often = however_often; anything = from_anything }
