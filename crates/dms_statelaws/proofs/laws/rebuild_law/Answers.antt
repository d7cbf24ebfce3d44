use Rattle.dms_statelaws.proofs.Statements.{rebuild_law}
use Rattle.dms_statelaws.proofs.laws.rebuild_law.Goals as goal

pub returns : goal.returns
returns g c = rebuild_law g.S.Site c.args.before.now c.args.after.now
