use Rattle.dms_opening.proofs.AskedFor.{own_judged}
use Rattle.dms_opening.proofs.asked.judge_asked.Goals as goal

pub returns : goal.returns
returns c files entries t = own_judged files entries c.args.history.now c.deref.result.now c.args.first c.last_point.result c.args.asked c.args.look c.judge_own.result c.deref.ensures.value (c.last_point.ensures files entries t) (c.judge_own.ensures files) t
