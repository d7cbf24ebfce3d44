use Rattle.dms_opening.proofs.Chosen.{begins_with, goes_on_with}
use Rattle.dms_opening.proofs.choosing.choice_of.Goals as goal

pub returns-in-Some : goal.returns-in-Some
returns-in-Some c files entries rows first begun look t none = goes_on_with files entries c.args.history.now first c.args.asked rows begun look c.goes_first.result c.in-Some.at c.goes_first.ensures c.in-Some.is t none

pub returns-in-None : goal.returns-in-None
returns-in-None c files entries rows first begun look t none =
    begins_with files entries c.args.history.now first c.args.asked rows begun look c.goes_first.result c.last_point.result c.point_of.result c.goes_first.ensures c.in-None.is t (c.last_point.ensures files entries t) c.point_of.ensures none
