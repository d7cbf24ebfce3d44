use Rattle.dms_history.proofs.Running.{points_go_on, quiet_is_live, level_is_live, control_stands}
use Rattle.dms_history.proofs.laws.points_go_on.Goals as goal

pub returns : goal.returns
returns c = record { points = points_go_on; quiet = quiet_is_live; level = level_is_live; control = control_stands }
