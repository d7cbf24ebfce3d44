use Rattle.dms_manual.specs.Answered.{put_is}
use Rattle.dms_manual.proofs.laws.answers_by_the_list.Goals as goal

pub returns : goal.returns
returns c desc s db o n r at small here told = put_is desc s db o n r told.structure told.kind small here at told.fit told.rising told.stand
