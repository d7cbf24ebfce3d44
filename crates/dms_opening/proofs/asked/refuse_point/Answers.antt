use Rattle.std.proofs.Common.{◌∙◌, sym, ap}
use Rattle.dms_opening.specs.Judged.{refusal_seen}
use Rattle.dms_opening.specs.Asked.{refused_at}
use Rattle.dms_opening.proofs.asked.refuse_point.Goals as goal

pub returns-in-None : goal.returns-in-None
returns-in-None c files = ap (refused_at c.args.point) (ap refusal_seen (sym c.in-None.is) ∙ c.judge_point.ensures files)

pub returns-in-Some : goal.returns-in-Some
returns-in-Some c files = ap (refused_at c.args.point) (ap refusal_seen (sym c.in-Some.is) ∙ c.judge_point.ensures files)
