use Rattle.dms_tally.specs.Tally.{counted_linked, owned_linked}
use Rattle.dms_tally.proofs.laws.link_law.Goals as goal

pub returns-clause-counted : goal.returns-clause-counted
returns-clause-counted c desc db set number item to r t m has = counted_linked desc db set number item to r t m has.found has.low has.long

pub returns-clause-owned : goal.returns-clause-owned
returns-clause-owned c = owned_linked
