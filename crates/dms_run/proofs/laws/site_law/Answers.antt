use Rattle.dms_run.proofs.Lowering.{lowers}
use Rattle.dms_run.proofs.laws.site_law.Goals as goal

pub returns : goal.returns
returns g c = lowers g.S.Site c.args.before.now c.args.after.now
