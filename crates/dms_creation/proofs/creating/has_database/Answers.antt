use Rattle.dms_creation.proofs.Making.{gate_is}
use Rattle.dms_creation.proofs.creating.has_database.Goals as goal

pub returns-clause-gate : goal.returns-clause-gate
returns-clause-gate g c tells long = gate_is (g.S.Site.files c.args.site.now 1) c.read.new.into _ (c.in_ok-read.ensures.bytes tells).1 long
