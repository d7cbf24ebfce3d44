use Rattle.dms_statelaws.proofs.Statements.{reconstruct_law}
use Rattle.dms_statelaws.proofs.laws.reconstruct_law.Goals as goal

pub returns : goal.returns
returns g c = reconstruct_law g.S.Site c.args.before.now c.args.after.now
