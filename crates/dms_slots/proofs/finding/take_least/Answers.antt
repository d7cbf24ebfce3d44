use Rattle.std.proofs.Common.{arith}
use Rattle.std.proofs.lemmas.Result.{IfOk-weaker}
use Rattle.dms_slots.proofs.finding.take_least.Goals as goal

pub returns-clause-least : goal.returns-clause-least
returns-clause-least g c = IfOk-weaker c.next_free.result _ _ (λ o h told. h told (omega arith)) c.next_free.ensures.least
