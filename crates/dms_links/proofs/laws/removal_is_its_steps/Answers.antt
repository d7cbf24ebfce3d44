use Rattle.dms_links.specs.Cleared.{cleared_get, removal_steps}
use Rattle.dms_links.proofs.laws.removal_is_its_steps.Goals as goal

pub returns-clause-steps : goal.returns-clause-steps
returns-clause-steps c = removal_steps

pub returns-clause-each : goal.returns-clause-each
returns-clause-each c desc db set number ps p = cleared_get desc set number ps db.records p
