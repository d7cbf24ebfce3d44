use Rattle.dms_tally.specs.Gone.{links_without, owner_without}
use Rattle.dms_tally.proofs.laws.standing_law.Goals as goal

pub returns-clause-links : goal.returns-clause-links
returns-clause-links c desc db set number p r may = links_without desc db set number may p r

pub returns-clause-owner : goal.returns-clause-owner
returns-clause-owner c desc db set number p r may = owner_without desc db set number may p r
