use Rattle.dms_history.proofs.Picks.{choice_gives_content}
use Rattle.dms_history.proofs.AtPoints.{each_point}
use Rattle.dms_history.proofs.Given.{at_point, opening_never_counts}
use Rattle.dms_history.proofs.laws.points_have_content.Goals as goal

pub returns : goal.returns
returns c = record { choice = choice_gives_content; points = each_point; live_points = at_point; opening = opening_never_counts }
