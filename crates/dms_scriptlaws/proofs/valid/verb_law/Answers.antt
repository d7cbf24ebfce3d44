use Rattle.dms_runner.proofs.LineVerbs.{line_verb}
use Rattle.dms_scriptlaws.proofs.valid.verb_law.Goals as goal

pub returns : goal.returns
returns c = line_verb
