use Rattle.dms_differ.proofs.Differs.{first_by_least, same_where_none}
use Rattle.dms_differ.proofs.laws.first_difference_law.Goals as goal

pub returns : goal.returns
returns c = record { least = first_by_least; same = same_where_none }
