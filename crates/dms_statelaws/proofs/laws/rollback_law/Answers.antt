use Rattle.dms_statelaws.proofs.Statements.{rollback_law}
use Rattle.dms_statelaws.proofs.laws.rollback_law.Goals as goal

pub returns : goal.returns
returns g c = rollback_law g.S.Site c.args.before.now c.args.after.now
