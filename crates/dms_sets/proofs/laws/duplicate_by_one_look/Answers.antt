use Rattle.dms_sets.specs.Kept.{put_answers}
use Rattle.dms_sets.specs.ToldLaws.{clash_new}
use Rattle.dms_sets.proofs.laws.duplicate_by_one_look.Goals as goal

pub returns-clause-answer : goal.returns-clause-answer
returns-clause-answer c = put_answers

pub returns-clause-fresh : goal.returns-clause-fresh
returns-clause-fresh c desc db set n rec none = clash_new desc db set n rec none desc.structures
