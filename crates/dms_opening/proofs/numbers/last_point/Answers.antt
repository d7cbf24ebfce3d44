use Rattle.dms_opening.proofs.Numbered.{last_traced}
use Rattle.dms_opening.proofs.numbers.last_point.Goals as goal

pub returns : goal.returns
returns c files entries t = last_traced files entries c.args.history.now _ _ _ c.deref.ensures.value (λ p m. c.pending_number.ensures files _ _ p m) (c.last_number.ensures files) t
