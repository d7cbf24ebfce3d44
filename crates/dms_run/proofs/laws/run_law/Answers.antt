use Rattle.dms_run.proofs.Leaving.{stops, ends}
use Rattle.dms_run.proofs.Words.{allows}
use Rattle.dms_run.proofs.laws.run_law.Goals as goal

pub returns : goal.returns
returns c = record { stops = stops; ends = ends; allows = allows }
