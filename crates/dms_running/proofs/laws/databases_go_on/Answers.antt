use Rattle.dms_running.proofs.Wholes.{runs_image, runs_range, runs_quiet, runs_writes, begin_keeps_all}
use Rattle.dms_running.proofs.laws.databases_go_on.Goals as goal

pub returns : goal.returns
returns c = record { image = runs_image; range = runs_range; quiet = runs_quiet; writes = runs_writes; begin = begin_keeps_all }
