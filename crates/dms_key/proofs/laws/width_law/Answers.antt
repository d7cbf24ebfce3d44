use Rattle.dms_key.specs.KeyOrder.{key_length, key_most, whole_length}
use Rattle.dms_key.proofs.laws.width_law.Goals as goal

pub returns-clause-whole : goal.returns-clause-whole
returns-clause-whole c = whole_length

pub returns-clause-first_values : goal.returns-clause-first_values
returns-clause-first_values c = key_length

pub returns-clause-most : goal.returns-clause-most
returns-clause-most c = key_most
