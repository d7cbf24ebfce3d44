use Rattle.dms_statelaws.proofs.Statements.{dump_law}
use Rattle.dms_statelaws.proofs.laws.dump_law.Goals as goal

pub returns : goal.returns
returns g c = λ tells. dump_law g.S.Site c.args.before.now c.args.opened.now c.args.after.now (g.met.S.Site.may_stay c.args.opened.now.log.site tells)
