use Rattle.dms_fields.specs.Laid.{again_two, again_four, again_eight}
use Rattle.dms_fields.proofs.put_is_taken.Goals as goal

pub returns-clause-two : goal.returns-clause-two
returns-clause-two c = again_two

pub returns-clause-four : goal.returns-clause-four
returns-clause-four c = again_four

pub returns-clause-eight : goal.returns-clause-eight
returns-clause-eight c = again_eight
