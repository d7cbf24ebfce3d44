use Rattle.dms_history.proofs.Again.{runs_steady}
use Rattle.dms_history.proofs.Runs.{changes, quiets, writes_early, controls}
use Rattle.dms_history.proofs.Running.{seals_run}
use Rattle.dms_history.proofs.laws.running_keeps.Goals as goal

pub returns : goal.returns
returns c = record { changes = changes; quiets = quiets; writes_early = writes_early; controls = controls; steady = runs_steady; seals = seals_run }
