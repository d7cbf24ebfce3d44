use Rattle.std.specs.Prelude.{option_map}
use Rattle.std.proofs.Common.{sym, ◌∙◌, ap}
use Rattle.dms_restore.specs.declared.live.PendingAt.{PendingAt}
use Rattle.dms_opening.proofs.Numbered.{pending_number}
use Rattle.dms_opening.proofs.numbers.pending_number.Goals as goal

pub returns-in-None : goal.returns-in-None
returns-in-None c files live removed p m = ap (option_map (λ (a : PendingAt). a.point)) (sym c.in-None.is) ∙ pending_number files live removed c.args.pending p m

pub returns-in-Some : goal.returns-in-Some
returns-in-Some c files live removed p m = ap (option_map (λ (a : PendingAt). a.point)) (sym c.in-Some.is) ∙ pending_number files live removed c.args.pending p m
