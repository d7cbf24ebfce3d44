use Rattle.dms_key.specs.KeyOrder.{key_order, prefix_order, field_order, null_highest}
use Rattle.dms_key.proofs.laws.order_law.Goals as goal

pub returns-clause-keys : goal.returns-clause-keys
returns-clause-keys c = key_order

pub returns-clause-first_values : goal.returns-clause-first_values
returns-clause-first_values c = prefix_order

pub returns-clause-values : goal.returns-clause-values
returns-clause-values c = field_order

pub returns-clause-null_highest : goal.returns-clause-null_highest
returns-clause-null_highest c = null_highest
