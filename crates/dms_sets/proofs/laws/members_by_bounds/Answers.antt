use Rattle.dms_sets.specs.Finds.{first_member_by, last_member_by}
use Rattle.dms_sets.proofs.laws.members_by_bounds.Goals as goal

pub returns-clause-first : goal.returns-clause-first
returns-clause-first c = first_member_by

pub returns-clause-last : goal.returns-clause-last
returns-clause-last c = last_member_by
