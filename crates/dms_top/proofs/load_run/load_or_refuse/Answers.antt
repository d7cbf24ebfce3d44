use Rattle.dms_top.proofs.LoadWords.{not_untouched}
use Rattle.dms_top.proofs.load_run.load_or_refuse.Goals as goal

pub returns-in-Some-clause-untouched : goal.returns-in-Some-clause-untouched
returns-in-Some-clause-untouched g c = λ is. absurd (not_untouched c.load_command.result c.load_command.ensures.does.statuses is)
