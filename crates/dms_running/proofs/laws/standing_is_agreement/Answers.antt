use Rattle.dms_running.proofs.Wholes.{stands_agrees, agrees_stands}
use Rattle.dms_running.proofs.laws.standing_is_agreement.Goals as goal

pub returns : goal.returns
returns c = record { agrees = stands_agrees; stands = agrees_stands }
