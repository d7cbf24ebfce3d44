use Rattle.dms_history.proofs.Whole.{agrees_is_steady, steady_agrees}
use Rattle.dms_history.proofs.Given.{opening_stays}
use Rattle.dms_history.proofs.Removed.{front_goes}
use Rattle.dms_history.proofs.laws.stays_steady.Goals as goal

pub returns : goal.returns
returns c = record { steady = agrees_is_steady; agrees = steady_agrees; opening = opening_stays; front = front_goes }
