use Rattle.dms_history.proofs.Base.{agrees_has_base}
use Rattle.dms_history.proofs.Converse.{agrees_leads, base_agrees}
use Rattle.dms_history.proofs.laws.agrees_has_base.Goals as goal

pub returns : goal.returns
returns c = record { base = agrees_has_base; opening = agrees_leads; agrees = base_agrees }
