use Rattle.dms_base.proofs.Totals.{value_total}
use Rattle.dms_base.proofs.laws.order_law.Goals as goal

pub returns : goal.returns
returns c = value_total
